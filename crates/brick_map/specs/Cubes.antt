-- The bricks of a cube as contracts see them, and when they are whole.
use Rattle.std.specs.Prelude.{◌≡◌, ℕ, ◌^◌, ◌<◌, All}
use Rattle.cube_values.specs.Shapes.{IsSoundCube}
use Rattle.brick_map.specs.declared.cube.CubeBricks.TheInside.{Inside}
use Rattle.brick_map.specs.Births.{CubeState, brick_in, rows_count}
use Rattle.brick_map.specs.Lists.{IsBrickOf}
use Rattle.brick_map.specs.Waiting.{IsWaiting}

abbrev pub cube_state : Inside → CubeState
cube_state c = record { shape = c.shape; bricks = c.list; recent = c.recent.items }

-- The bricks are of the cube, the boxes of the deletions that wait cut no brick, and the rows are counted.
pub record IsCubeWhole (c : Inside) : Type 0 where
  pub shape : IsSoundCube c.shape
  pub bricks : All (IsBrickOf c.shape) c.list
  pub recent : All (IsWaiting c.shape.shape.sizes) c.recent.items
  pub rows : c.rows ≡ rows_count c.list
  pub few : rows_count c.list < 2 ^ 63

-- Each brick, there or not, has what it had, and there are as many rows.
pub record HasSameBricks (old new : CubeState) : Type 0 where
  pub same : (number : ℕ) → brick_in new number ≡ brick_in old number
  pub count : rows_count new.bricks ≡ rows_count old.bricks
