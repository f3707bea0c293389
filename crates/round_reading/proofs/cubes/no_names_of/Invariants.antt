use Rattle.std.proofs.Common.{◌≡◌, take, map}
use Rattle.cube_rounds.specs.Demands.{no_names}
use Rattle.round_reading.proofs.cubes.no_names_of.Given as goal

abbrev pub invariant-cubes : goal.invariant-cubes
invariant-cubes l = l.names ≡ map no_names (take l.cube-index l.cubes)
