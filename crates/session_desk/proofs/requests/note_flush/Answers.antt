use Rattle.session_desk.proofs.Moving.{moves_flushed, moves_same}
use Rattle.session_desk.proofs.requests.note_flush.Goals as goal

pub returns-in-Ok-clause-moves : goal.returns-in-Ok-clause-moves
returns-in-Ok-clause-moves c =
    moves_flushed c.args.statement c.args.desk.now c.note.new.self c.in-Ok.ensures.desk

pub returns-in-Err-clause-moves : goal.returns-in-Err-clause-moves
returns-in-Err-clause-moves c =
    moves_same c.args.desk.now c.note.new.self c.in-Err.ensures.same
