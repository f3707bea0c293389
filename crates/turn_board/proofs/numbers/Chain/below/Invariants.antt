use Rattle.std.proofs.Common.{◌≡◌, ◌-◌, ◌≤◌}
use Rattle.turn_board.specs.Rising.{numbers_from}
use Rattle.turn_board.proofs.numbers.Chain.below.Given as goal

abbrev pub invariant-loop-number : goal.invariant-loop-number
invariant-loop-number l = (l.number ≤ l.count) × (l.chain ≡ numbers_from l.number (l.count - l.number))

abbrev pub decreases-loop-number : goal.decreases-loop-number
decreases-loop-number l = l.number
