use Rattle.std.proofs.Common.{◌≡◌, ◌↔◌, length, All}
use Rattle.cube_values.specs.Shapes.{IsSoundSize}
use Rattle.brick_address.specs.Addresses.{AreCoords}
use Rattle.brick_map.specs.Batches.{range_starts}
use Rattle.brick_map.proofs.runs.lie_in_ranges.Given as goal

abbrev pub invariant-dims : goal.invariant-dims
invariant-dims l = record {
  sound : All IsSoundSize l.sizes_left;
  are_starts : range_starts l.sizes_left l.starts_left ≡ l.starts_left;
  coords : AreCoords l.sizes_left l.coords_left;
  whole : (range_starts l.sizes_left l.coords_left ≡ l.starts_left) ↔ (range_starts l.sizes l.coords ≡ l.starts);
}

abbrev pub decreases-dims : goal.decreases-dims
decreases-dims l = length l.sizes_left
