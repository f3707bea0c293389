-- Shapes of cubes that can be stored, and their bricks.
-- Source: Cubrick (VLDB 2016), granular partitioning of the space of dimensions; the limits are this project's own.
use Rattle.std.specs.Prelude.{ℕ, ◌+◌, ◌-◌, ◌*◌, ◌/◌, ◌^◌, ◌<◌, ◌≤◌, ◌≡◌, List, [], ◌∷◌, length, All}
use Rattle.cube_values.specs.declared.shape.TheConstants.{MOST_BRICKS, MOST_COLUMNS}
use Rattle.cube_values.specs.declared.shape.Size.{Size}
use Rattle.cube_values.specs.declared.shape.Shape.{Shape}
use Rattle.cube_values.specs.declared.shape.CubeShape.{CubeShape}

-- A dimension of c coordinates in ranges of r has c / r ranges, rounded up.
abbrev pub ranges_of : Size → ℕ
ranges_of s = (s.cardinality + (s.range - 1)) / s.range

-- A cube has one brick for each choice of a range in each dimension.
abbrev pub bricks_of : List Size → ℕ
bricks_of [] = 1
bricks_of (s ∷ sizes) = ranges_of s * bricks_of sizes

-- A dimension has coordinates and ranges, no range is larger than the dimension, and a coordinate has 32 bits.
pub record IsSoundSize (s : Size) : Type 0 where
  pub range : 0 < s.range
  pub fits : s.range ≤ s.cardinality
  pub small : s.cardinality < 2 ^ 32

-- Sound dimensions, of which there are not too many, and not too many bricks.
pub record IsSoundShape (shape : Shape) : Type 0 where
  pub sizes : All IsSoundSize shape.sizes
  pub bricks : bricks_of shape.sizes ≤ MOST_BRICKS
  pub dims : length shape.sizes ≤ MOST_COLUMNS

-- A sound shape with a flag for each dimension, and not too many metrics.
pub record IsSoundCube (cube : CubeShape) : Type 0 where
  pub shape : IsSoundShape cube.shape
  pub flags : length cube.texts ≡ length cube.shape.sizes
  pub metrics : cube.metrics ≤ MOST_COLUMNS
