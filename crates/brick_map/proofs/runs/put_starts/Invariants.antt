use Rattle.std.proofs.Common.{◌≡◌, ◌++◌, length, All}
use Rattle.cube_values.specs.Shapes.{IsSoundSize}
use Rattle.brick_map.specs.Batches.{range_starts}
use Rattle.brick_map.proofs.runs.put_starts.Given as goal

abbrev pub invariant-dims : goal.invariant-dims
invariant-dims l = record {
  starts : l.starts.items ++ range_starts l.sizes_left l.coords_left ≡ range_starts l.sizes l.coords;
  sound : All IsSoundSize l.sizes_left;
}

abbrev pub decreases-dims : goal.decreases-dims
decreases-dims l = length l.sizes_left
