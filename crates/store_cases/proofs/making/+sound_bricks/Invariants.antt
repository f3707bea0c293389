use Rattle.std.proofs.Common.{length}
use Rattle.store_cases.proofs.making.+sound_bricks.Given as goal

abbrev pub decreases-sound_bricks : goal.decreases-sound_bricks
decreases-sound_bricks l = length l.sizes.now
