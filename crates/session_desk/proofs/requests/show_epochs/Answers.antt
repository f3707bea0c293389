use Rattle.std.proofs.Common.{refl}
use Rattle.cube_language.specs.declared.statement.Statement.TheVariants.{ShowEpochs}
use Rattle.cube_run.specs.RunRecords.{Says}
use Rattle.session_desk.proofs.Asking.{shows}
use Rattle.session_desk.proofs.Replying.{counted, memory_refused}
use Rattle.session_desk.proofs.Moving.{moves_shown}
use Rattle.std.proofs.Common.{None}
use Rattle.std.proofs.Common.{◌+◌}
use Rattle.aosi_desk.specs.State.{state_of}
use Rattle.session_replies.specs.Modes.{mode_of}
use Rattle.session_desk.proofs.Turning.{keeps_itself, moves_from}
use Rattle.session_desk.proofs.requests.show_epochs.Goals as goal

pub returns-in-Ok-clause-executed : goal.returns-in-Ok-clause-executed
returns-in-Ok-clause-executed c =
    shows c.args.desk.now c.args.session.now c.note.new.self (counted c.args.session.now) c.in-Ok.counters
    (record {
      desk_is = c.in-Ok.ensures.desk;
      mode_is = refl;
      statements = refl;
      commits = refl;
      every = refl;
    })
    c.in-Ok.ensures.counters

pub returns-in-Err-clause-executed : goal.returns-in-Err-clause-executed
returns-in-Err-clause-executed c =
    memory_refused (Says ShowEpochs) c.refuse.result c.args.desk.now c.args.session.now c.note.new.self
    c.refuse.new.desk c.in-Err.ensures.same c.refuse.ensures.said c.refuse.ensures.desk

pub returns-in-Ok-clause-moves : goal.returns-in-Ok-clause-moves
returns-in-Ok-clause-moves c =
    moves_shown (c.args.session.now.statements + 1) c.args.desk.now c.note.new.self c.in-Ok.ensures.desk

pub returns-in-Ok-clause-turns : goal.returns-in-Ok-clause-turns
returns-in-Ok-clause-turns c =
    keeps_itself (state_of c.args.desk.now.register).ec (mode_of c.args.session.now.mode)

pub returns-in-Err-clause-moves : goal.returns-in-Err-clause-moves
returns-in-Err-clause-moves c =
    moves_from None c.args.desk.now c.note.new.self c.refuse.new.desk c.in-Err.ensures.same c.refuse.ensures.moves

pub returns-in-Err-clause-turns : goal.returns-in-Err-clause-turns
returns-in-Err-clause-turns c =
    keeps_itself (state_of c.args.desk.now.register).ec (mode_of c.args.session.now.mode)
