use Rattle.std.proofs.Common.{◌≡◌, length}
use Rattle.turn_board.specs.Rising.{rising_union, itself}
use Rattle.turn_board.proofs.numbers.Chain.merge.Given as goal

abbrev pub invariant-links : goal.invariant-links
invariant-links l = rising_union itself l.self l.left ≡ rising_union itself l.fn.self l.fn.other

abbrev pub decreases-links : goal.decreases-links
decreases-links l = length l.left
