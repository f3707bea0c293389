use Rattle.std.proofs.Common.{length}
use Rattle.core_steps.proofs.rows.+are_coords.Given as goal

abbrev pub decreases-are_coords : goal.decreases-are_coords
decreases-are_coords l = length l.sizes.now
