use Rattle.std.proofs.Common.{ap}
use Rattle.cube_language.specs.declared.statement.Statement.TheVariants.{Flush}
use Rattle.cube_run.specs.RunRecords.{Says}
use Rattle.aosi_desk.specs.State.{state_of}
use Rattle.aosi_desk.specs.Desks.{DeskState}
use Rattle.session_desk.proofs.Asking.{at_flush, flush_executes, flush_fits}
use Rattle.session_desk.proofs.Replying.{memory_refused}
use Rattle.session_desk.proofs.Moving.{moves_then}
use Rattle.std.proofs.Common.{None}
use Rattle.session_replies.specs.Modes.{mode_of}
use Rattle.session_desk.proofs.Turning.{keeps_itself, moves_from}
use Rattle.session_desk.proofs.requests.flush.Goals as goal

pub note_flush-requires : goal.note_flush-requires
note_flush-requires c =
    flush_fits c.args.desk.now.register.safe c.args.desk.now.register.journal
    c.make_round.new.desk.register.journal (state_of c.args.desk.now.register)
    (ap (λ (d : DeskState). d.register.journal) c.in-Ok.ensures.made)

pub returns-in-Ok-clause-at : goal.returns-in-Ok-clause-at
returns-in-Ok-clause-at c =
    at_flush c.note_flush.result c.args.desk.now c.args.session.now c.make_round.new.desk c.note_flush.new.desk
    c.requires.at c.in-Ok.ensures.made c.note_flush.ensures.desk c.note_flush.ensures.same

pub returns-in-Ok-clause-executed : goal.returns-in-Ok-clause-executed
returns-in-Ok-clause-executed c =
    flush_executes c.note_flush.result c.args.desk.now c.args.session.now c.make_round.new.desk c.note_flush.new.desk
    c.in-Ok.ensures.made c.note_flush.ensures.desk c.note_flush.ensures.said

pub returns-in-Err-clause-executed : goal.returns-in-Err-clause-executed
returns-in-Err-clause-executed c =
    memory_refused (Says Flush) c.refuse.result c.args.desk.now c.args.session.now c.make_round.new.desk
    c.refuse.new.desk c.in-Err.ensures.same c.refuse.ensures.said c.refuse.ensures.desk

pub returns-in-Ok-clause-moves : goal.returns-in-Ok-clause-moves
returns-in-Ok-clause-moves c =
    moves_then None c.args.desk.now c.make_round.new.desk c.note_flush.new.desk c.make_round.ensures.moves
    c.note_flush.ensures.moves

pub returns-in-Ok-clause-turns : goal.returns-in-Ok-clause-turns
returns-in-Ok-clause-turns c =
    keeps_itself (state_of c.args.desk.now.register).ec (mode_of c.args.session.now.mode)

pub returns-in-Err-clause-moves : goal.returns-in-Err-clause-moves
returns-in-Err-clause-moves c =
    moves_from None c.args.desk.now c.make_round.new.desk c.refuse.new.desk c.in-Err.ensures.same c.refuse.ensures.moves

pub returns-in-Err-clause-turns : goal.returns-in-Err-clause-turns
returns-in-Err-clause-turns c =
    keeps_itself (state_of c.args.desk.now.register).ec (mode_of c.args.session.now.mode)
