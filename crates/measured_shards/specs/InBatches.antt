-- Rows in batches.
use Rattle.std.specs.Prelude.{◌≡◌, ℕ, ◌+◌, ◌*◌, length, All}
use Rattle.brick_map.specs.Batches.{IsRowOfCube}
use Rattle.measured_shards.specs.ManyBricks.{many_bricks}
use Rattle.measured_shards.specs.declared.batches.Batches.{Batches}
use Rattle.measured_shards.specs.declared.batches.TheConstants.{BRICKS}

-- How many rows there are in batches.
abbrev pub rows_in : Batches → ℕ
rows_in b = b.times * length b.full.rows + length b.rest.rows

-- So many rows, all of the cube.
pub record AreBatchesOf (items : ℕ) (b : Batches) : Type 0 where
  pub full : All (IsRowOfCube (many_bricks BRICKS)) b.full.rows
  pub rest : All (IsRowOfCube (many_bricks BRICKS)) b.rest.rows
  pub count : rows_in b ≡ items
