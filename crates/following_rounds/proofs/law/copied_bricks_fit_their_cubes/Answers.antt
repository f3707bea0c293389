use Rattle.following_rounds.proofs.FittingBricks.{brick-of-copies}
use Rattle.following_rounds.proofs.law.copied_bricks_fit_their_cubes.Goals as goal

pub returns : goal.returns
returns c = brick-of-copies
