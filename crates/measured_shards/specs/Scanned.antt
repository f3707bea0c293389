-- What a scan of a shard gives.
use Rattle.std.specs.Prelude.{◌≡◌, ℕ, List, [], map}
use Rattle.cube_values.specs.Answer.{table_of}
use Rattle.cube_values.specs.declared.row.CodedRow.{CodedRow}
use Rattle.agg_fold.specs.Coded.{row_for}
use Rattle.agg_fold.specs.declared.groups.Groups.{Groups}
use Rattle.brick_map.specs.Births.{rows_of_brick}
use Rattle.shard_cell.specs.Answers.{brick_rows_shown}
use Rattle.shard_cell.specs.Shards.{shard_brick}
use Rattle.shard_cell.specs.Slots.{AreGroupsOf}
use Rattle.measured_rows.specs.Scanned.{all_coords, all_epochs, sums_and_counts}
use Rattle.measured_rows.specs.Sums.{table_sum}
use Rattle.measured_shards.specs.ManyBricks.{CubeOnShard, many_bricks}

-- The rows of a brick of the cube.
abbrev pub cube_rows_shown : CubeOnShard → ℕ → List CodedRow
cube_rows_shown cube number = brick_rows_shown all_coords all_epochs (shard_brick cube.shard 0 number)

-- Groups stand for the rows of the cube, brick by brick.
abbrev pub AreScanned : CubeOnShard → Groups → Type 0
AreScanned cube groups =
    AreGroupsOf sums_and_counts (many_bricks cube.bricks).shape.sizes cube.shard.limit (cube_rows_shown cube) groups

-- The sum of the whole numbers in the answer over rows that are, brick by brick, those of the cube.
pub record IsScannedSum (cube : CubeOnShard) (sum : ℕ) : Type 0 where
  pub rows : List CodedRow
  pub by_brick : (number : ℕ)
      → rows_of_brick (many_bricks cube.bricks).shape.sizes number rows ≡ cube_rows_shown cube number
  pub sums : sum ≡ table_sum (table_of sums_and_counts.group sums_and_counts.items (map (row_for []) rows))
