use Rattle.std.proofs.Common.{◌↔◌, length}
use Rattle.cube_rounds.specs.Demands.{HaveDims}
use Rattle.round_reading.proofs.cubes.have_dims.Given as goal

abbrev pub invariant-cubes : goal.invariant-cubes
invariant-cubes l = HaveDims l.cubes_left l.lists_left ↔ HaveDims l.cubes l.names

abbrev pub decreases-cubes : goal.decreases-cubes
decreases-cubes l = length l.cubes_left
