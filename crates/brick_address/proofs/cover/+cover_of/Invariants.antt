use Rattle.std.proofs.Common.{length}
use Rattle.brick_address.proofs.cover.+cover_of.Given as goal

abbrev pub decreases-cover_of : goal.decreases-cover_of
decreases-cover_of l = length l.sizes.now
