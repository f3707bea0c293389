use Rattle.turn_board.specs.Passes.{IsPassOf}
use Rattle.turn_board_uses.proofs.working.count.Given as goal

abbrev pub invariant-loop : goal.invariant-loop
invariant-loop g l = IsPassOf l.board l.pass
