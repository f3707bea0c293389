use Rattle.core_events.proofs.KnownCubes.{known-cubes}
use Rattle.core_events.proofs.desk.told_cubes_are_there.Goals as goal

pub returns : goal.returns
returns c = known-cubes
