use Rattle.std.proofs.Common.{refl}
use Rattle.cube_run.specs.RunRecords.{Says}
use Rattle.session_desk.proofs.Replying.{counted, memory_refused, refuses_next}
use Rattle.session_desk.proofs.Unfit.{refuses_unknown}
use Rattle.session_desk.proofs.Moving.{moves_refused}
use Rattle.std.proofs.Common.{None}
use Rattle.std.proofs.Common.{◌+◌}
use Rattle.aosi_desk.specs.State.{state_of}
use Rattle.session_replies.specs.Modes.{mode_of}
use Rattle.session_desk.proofs.Turning.{keeps_itself, moves_from}
use Rattle.session_desk.proofs.unbound.refuse_unknown.Goals as goal

pub returns-in-Ok-clause-executed : goal.returns-in-Ok-clause-executed
returns-in-Ok-clause-executed c =
    let desk = c.args.desk.now in
    let session = c.args.session.now in
    refuses_unknown c.args.statement.now c.args.name desk session c.note_unknown.new.desk (counted session)
    (refuses_next 2 desk session desk c.note_unknown.new.desk refl c.in-Ok.ensures.desk) c.requires.may
    c.requires.lacks.needed c.requires.lacks.lacks

pub returns-in-Err-clause-executed : goal.returns-in-Err-clause-executed
returns-in-Err-clause-executed c =
    memory_refused (Says c.args.statement.now) c.refuse.result c.args.desk.now c.args.session.now
    c.note_unknown.new.desk c.refuse.new.desk c.in-Err.ensures.same c.refuse.ensures.said c.refuse.ensures.desk

pub returns-in-Ok-clause-moves : goal.returns-in-Ok-clause-moves
returns-in-Ok-clause-moves c =
    moves_refused (c.args.session.now.statements + 1) 2 c.args.desk.now c.note_unknown.new.desk c.in-Ok.ensures.desk

pub returns-in-Ok-clause-turns : goal.returns-in-Ok-clause-turns
returns-in-Ok-clause-turns c =
    keeps_itself (state_of c.args.desk.now.register).ec (mode_of c.args.session.now.mode)

pub returns-in-Err-clause-moves : goal.returns-in-Err-clause-moves
returns-in-Err-clause-moves c =
    moves_from None c.args.desk.now c.note_unknown.new.desk c.refuse.new.desk c.in-Err.ensures.same
    c.refuse.ensures.moves

pub returns-in-Err-clause-turns : goal.returns-in-Err-clause-turns
returns-in-Err-clause-turns c =
    keeps_itself (state_of c.args.desk.now.register).ec (mode_of c.args.session.now.mode)
