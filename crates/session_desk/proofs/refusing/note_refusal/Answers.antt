use Rattle.session_desk.proofs.Moving.{moves_refused, moves_same}
use Rattle.session_desk.proofs.refusing.note_refusal.Goals as goal

pub returns-clause-moves : goal.returns-clause-moves
returns-clause-moves c =
    moves_refused c.args.statement c.args.code c.args.desk.now c.note.new.self c.in_ok-_counters.ensures.desk

pub returns-in_err-_counters-clause-moves : goal.returns-in_err-_counters-clause-moves
returns-in_err-_counters-clause-moves c = moves_same c.args.desk.now c.note.new.self c.in_err-_counters.ensures.same
