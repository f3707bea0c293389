use Rattle.std.proofs.Common.{length}
use Rattle.brick_address.proofs.address.+range_in.Given as goal

abbrev pub decreases-range_in : goal.decreases-range_in
decreases-range_in l = length l.sizes.now
