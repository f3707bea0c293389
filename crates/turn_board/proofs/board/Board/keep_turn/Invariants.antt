use Rattle.std.proofs.Common.{◌≡◌}
use Rattle.turn_board.specs.Seats.{IsQueued}
use Rattle.turn_board.proofs.board.Board.keep_turn.Given as goal

abbrev pub invariant-loop : goal.invariant-loop
invariant-loop g l = (l.seat.table_id ≡ l.fn.seat.table_id) × IsQueued l.cell l.ticket l.fn.seat.me l.seat.me
