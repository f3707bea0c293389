use Rattle.std.proofs.Common.{◌+◌, refl}
use Rattle.cube_language.specs.declared.statement.Statement.TheVariants.{Rollback}
use Rattle.cube_run.specs.RunRecords.{Says}
use Rattle.session_replies.specs.declared.mode.SessionMode.TheVariants as variant
use Rattle.session_desk.proofs.Finishing.{clear_executes}
use Rattle.session_desk.proofs.Replying.{memory_refused}
use Rattle.session_desk.proofs.Moving.{moves_cleared}
use Rattle.std.proofs.Common.{None}
use Rattle.session_desk.proofs.Turning.{moves_from}
use Rattle.session_desk.proofs.transactions.clear.Goals as goal

pub returns-in-Ok-clause-executed : goal.returns-in-Ok-clause-executed
returns-in-Ok-clause-executed c =
    let session = c.args.session.now in
    clear_executes c.args.epoch c.args.desk.now session c.note.new.self
    (record {
      mode = variant.Idle;
      statements = session.statements + 1;
      commits = session.commits;
      round_every = session.round_every;
    })
    (record {
      was = c.requires.aborted;
      desk_is = c.in-Ok.ensures.desk;
      mode_is = refl;
      statements = refl;
      commits = refl;
      every = refl;
    })

pub returns-in-Err-clause-executed : goal.returns-in-Err-clause-executed
returns-in-Err-clause-executed c =
    memory_refused (Says Rollback) c.refuse.result c.args.desk.now c.args.session.now c.note.new.self
    c.refuse.new.desk c.in-Err.ensures.same c.refuse.ensures.said c.refuse.ensures.desk

pub returns-in-Ok-clause-moves : goal.returns-in-Ok-clause-moves
returns-in-Ok-clause-moves c =
    moves_cleared (c.args.session.now.statements + 1) c.args.desk.now c.note.new.self c.in-Ok.ensures.desk

pub returns-in-Err-clause-moves : goal.returns-in-Err-clause-moves
returns-in-Err-clause-moves c =
    moves_from None c.args.desk.now c.note.new.self c.refuse.new.desk c.in-Err.ensures.same c.refuse.ensures.moves
