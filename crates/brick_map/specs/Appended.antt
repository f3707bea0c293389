-- What a batch makes of the bricks that are there.
use Rattle.std.specs.Prelude.{◌≡◌, ℕ, ◌+◌, List, length, All, Option, option_map}
use Rattle.cube_values.specs.declared.row.CodedRow.{CodedRow}
use Rattle.cube_values.specs.declared.shape.CubeShape.{CubeShape}
use Rattle.brick_store.specs.Bricks.{BrickState}
use Rattle.brick_map.specs.Births.{BrickContent, brick_numbered, content_of_brick, content_with_rows, rows_count, rows_of_brick}
use Rattle.brick_map.specs.Lists.{IsBrickOf}

-- What the brick of a number has, where it is there.
abbrev pub content_numbered : ℕ → List BrickState → Option BrickContent
content_numbered number bricks = option_map content_of_brick (brick_numbered number bricks)

-- Each brick that is there has its rows of the batch besides.
pub record AreAppended (shape : CubeShape) (epoch : ℕ) (rows : List CodedRow) (old new : List BrickState) : Type 0 where
  pub each : (number : ℕ) → content_numbered number new
      ≡ option_map (content_with_rows epoch (rows_of_brick shape.shape.sizes number rows)) (content_numbered number old)
  pub count : rows_count new ≡ rows_count old + length rows
  pub bricks : All (IsBrickOf shape) new
