use Rattle.turn_board.specs.Hands.{event_of}
use Rattle.turn_board.proofs.board.Board.call.Given as goal

abbrev pub ghosts-pass_on : goal.ghosts-pass_on
ghosts-pass_on g a = record { event = event_of a.seat.now.me.0.hands a.cell a._asked.now.value a._answer.now }
