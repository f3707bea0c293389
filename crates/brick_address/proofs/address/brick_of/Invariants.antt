use Rattle.std.proofs.Common.{◌≡◌, ◌+◌, ◌*◌, length, All}
use Rattle.cube_values.specs.Shapes.{bricks_of, IsSoundSize}
use Rattle.brick_address.specs.Addresses.{AreCoords, brick_of}
use Rattle.brick_address.proofs.address.brick_of.Given as goal

abbrev pub invariant-dims : goal.invariant-dims
invariant-dims l =
    (l.brick * bricks_of l.sizes_left + brick_of l.sizes_left l.coords_left ≡ brick_of l.shape.sizes l.coords)
    × All IsSoundSize l.sizes_left × AreCoords l.sizes_left l.coords_left

abbrev pub decreases-dims : goal.decreases-dims
decreases-dims l = length l.sizes_left
