use Rattle.std.proofs.Common.{◌≡◌, ◌≤◌, ◌-◌, length}
use Rattle.turn_board.specs.Seats.{IsKeeper}
use Rattle.turn_board.proofs.board.Board.keep_all.Given as goal

abbrev pub invariant-loop-cell : goal.invariant-loop-cell
invariant-loop-cell g l =
    (l.seat.table_id ≡ l.fn.seat.table_id)
    × IsKeeper l.fn.seat.me l.seat.me
    × (length l.seat.me.0.shut ≡ l.cell)
    × (l.cell ≤ l.self.cells)

abbrev pub decreases-loop-cell : goal.decreases-loop-cell
decreases-loop-cell g l = l.self.cells - l.cell
