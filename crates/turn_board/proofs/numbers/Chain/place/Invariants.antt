use Rattle.std.proofs.Common.{◌≡◌, ◌++◌, length}
use mathlib.Core.List.{reverse}
use Rattle.turn_board.specs.Rising.{rising_with, itself}
use Rattle.turn_board.proofs.numbers.Chain.place.Given as goal

abbrev pub invariant-smaller : goal.invariant-smaller
invariant-smaller l = reverse l.front ++ rising_with itself l.number l.back ≡ rising_with itself l.number l.fn.self

abbrev pub decreases-smaller : goal.decreases-smaller
decreases-smaller l = length l.back
