use Rattle.std.proofs.Common.{length}
use Rattle.turn_board.proofs.numbers.Chain.drop.Given as goal

abbrev pub decreases-links : goal.decreases-links
decreases-links l = length l.left
