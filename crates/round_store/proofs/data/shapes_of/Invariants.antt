use Rattle.std.proofs.Common.{◌≡◌, map, take}
use Rattle.cube_schema.specs.Schemas.{cube_of}
use Rattle.round_store.proofs.data.shapes_of.Given as goal

abbrev pub invariant-cubes : goal.invariant-cubes
invariant-cubes l = l.shapes ≡ map cube_of (take l.cube-index l.cubes)
