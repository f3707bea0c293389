use Rattle.std.proofs.Common.{◌≡◌, take}
use Rattle.cube_schema.proofs.schema.copy_cubes.Given as goal

abbrev pub invariant-cubes : goal.invariant-cubes
invariant-cubes l = l.copied ≡ take l.cube-index l.cubes
