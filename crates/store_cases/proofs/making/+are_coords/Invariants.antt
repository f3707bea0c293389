use Rattle.std.proofs.Common.{length}
use Rattle.store_cases.proofs.making.+are_coords.Given as goal

abbrev pub decreases-are_coords : goal.decreases-are_coords
decreases-are_coords l = length l.coords.now
