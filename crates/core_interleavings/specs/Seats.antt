-- A seat whose caller is a pass of a board.
-- Source: this project's own.
use Rattle.board_callers.specs.Callers.{first_calls}
use Rattle.core_steps.specs.Seats.{IsSeated}
use Rattle.core_steps.specs.declared.seat.Seat.{Seat}
use Rattle.cube_core.specs.declared.cell.CoreAnswer.{CoreAnswer}
use Rattle.cube_core.specs.declared.cell.CoreCall.{CoreCall}
use Rattle.cube_core.specs.declared.cell.CoreCell.{CoreCell}
use Rattle.linked_shards.specs.declared.cell.CoreShard.{CoreShard}
use Rattle.turn_board.specs.Hands.{first_number}
use Rattle.turn_board.specs.Passes.{IsPassOf, hands_of, view_of}
use Rattle.turn_board.specs.declared.board.Board.{Board}
use Rattle.turn_board.specs.declared.cells.Cells.{Ghosts}
use Rattle.turn_board.specs.declared.pass.Pass.{Pass}

pub record IsSeatOf {C : Type 0} {g : Ghosts C (CoreCell CoreShard) CoreCall CoreAnswer}
    (b : Board C (CoreCell CoreShard) CoreCall CoreAnswer)
    (seat : Seat (Pass C (CoreCell CoreShard) CoreCall CoreAnswer g)) : Type 0 where
  pub pass : IsPassOf b seat.traced.caller
  pub sits : IsSeated seat (view_of seat.traced.caller).opening (first_number (hands_of seat.traced.caller))
      (first_calls (hands_of seat.traced.caller))
