use Rattle.session_desk.proofs.Moving.{moves_purged, moves_same}
use Rattle.session_desk.proofs.rounds.note_purge.Goals as goal

pub returns-in-Ok-clause-moves : goal.returns-in-Ok-clause-moves
returns-in-Ok-clause-moves c =
    moves_purged c.args.statement c.args.epoch c.args.desk.now c.note.new.self c.in-Ok.ensures.desk

pub returns-in-Err-clause-moves : goal.returns-in-Err-clause-moves
returns-in-Err-clause-moves c = moves_same c.args.desk.now c.note.new.self c.in-Err.ensures.same
