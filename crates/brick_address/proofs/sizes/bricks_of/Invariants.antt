use Rattle.std.proofs.Common.{◌≡◌, ◌*◌, length, All}
use Rattle.cube_values.specs.Shapes.{bricks_of, IsSoundSize}
use Rattle.brick_address.proofs.sizes.bricks_of.Given as goal

abbrev pub invariant-sizes : goal.invariant-sizes
invariant-sizes l = (l.bricks * bricks_of l.left ≡ bricks_of l.sizes) × All IsSoundSize l.left

abbrev pub decreases-sizes : goal.decreases-sizes
decreases-sizes l = length l.left
