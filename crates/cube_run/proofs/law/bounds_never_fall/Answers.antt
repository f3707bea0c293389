use Rattle.cube_run.proofs.RisingBounds.{lce-rises}
use Rattle.cube_run.proofs.law.bounds_never_fall.Goals as goal

pub returns : goal.returns
returns c = lce-rises
