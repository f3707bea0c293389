use Rattle.session_desk.proofs.Moving.{moves_refused, moves_same}
use Rattle.session_desk.proofs.rounds.note_no_memory.Goals as goal

pub returns-in-Ok-clause-moves : goal.returns-in-Ok-clause-moves
returns-in-Ok-clause-moves c =
    moves_refused c.args.statement c.code.result c.args.desk.now c.note_refusal.new.desk c.in-Ok.ensures.desk

pub returns-in-Err-clause-moves : goal.returns-in-Err-clause-moves
returns-in-Err-clause-moves c = moves_same c.args.desk.now c.note_refusal.new.desk c.in-Err.ensures.same
