use Rattle.std.proofs.Common.{◌≡◌, ◌++◌, length}
use mathlib.Core.List.{reverse}
use Rattle.turn_board.proofs.numbers.Chain.after.Given as goal

abbrev pub invariant-links : goal.invariant-links
invariant-links l = reverse l.left ++ l.chain ≡ reverse l.fn.front ++ l.fn.self

abbrev pub decreases-links : goal.decreases-links
decreases-links l = length l.left
