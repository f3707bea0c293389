use Rattle.std.proofs.Common.{◌≡◌, ◌*◌, ◌≤◌, drop}
use Rattle.cube_values.specs.declared.shape.TheConstants.{MOST_BRICKS}
use Rattle.cube_values.specs.Shapes.{bricks_of}
use Rattle.cube_language.specs.Cubes.{sizes_of}
use Rattle.cube_schema.proofs.fault.has_many_bricks.Given as goal

abbrev pub invariant-dims : goal.invariant-dims
invariant-dims l = record {
  product : l.bricks * bricks_of (sizes_of (drop l.dim-index l.dims)) ≡ bricks_of (sizes_of l.dims);
  few : l.bricks ≤ MOST_BRICKS;
}
