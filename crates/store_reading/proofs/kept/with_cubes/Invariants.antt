use Rattle.std.proofs.Common.{◌≡◌, ◌++◌, take}
use Rattle.store_reading.proofs.kept.with_cubes.Given as goal

abbrev pub invariant-cubes : goal.invariant-cubes
invariant-cubes l = l.all ≡ l.fn.cubes ++ take l.cube-index l.made
