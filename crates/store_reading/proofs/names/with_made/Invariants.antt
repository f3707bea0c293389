use Rattle.std.proofs.Common.{◌≡◌, ◌++◌, map, take}
use Rattle.cube_rounds.specs.Demands.{no_names}
use Rattle.store_reading.proofs.names.with_made.Given as goal

abbrev pub invariant-cubes : goal.invariant-cubes
invariant-cubes l = l.all ≡ l.fn.names ++ map no_names (take l.cube-index l.made)
