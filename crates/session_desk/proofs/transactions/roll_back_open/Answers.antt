use Rattle.session_desk.proofs.Finishing.{rolls_back_open}
use Rattle.std.proofs.Common.{◌+◌}
use Rattle.cube_journal.specs.declared.journal_entry.AbortCause.TheVariants.{Asked}
use Rattle.session_desk.proofs.Turning.{moves_aborted}
use Rattle.session_desk.proofs.transactions.roll_back_open.Goals as goal

pub returns-clause-executed : goal.returns-clause-executed
returns-clause-executed c =
    rolls_back_open c.open_epoch-epoch.result c.args.desk.now c.args.session.now c.abort_end.new.self c.requires.at
    c.open_epoch-epoch.ensures c.abort_end.ensures

pub returns-clause-moves : goal.returns-clause-moves
returns-clause-moves c =
    moves_aborted (c.args.session.now.statements + 1) Asked c.args.desk.now c.abort_end.new.self c.abort_end.ensures
