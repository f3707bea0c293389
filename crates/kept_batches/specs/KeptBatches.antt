-- The rows that rounds keep of a cube's bricks in one shard, as one batch.
-- Source: Cubrick (VLDB 2016), shards of bricks; AOSI (ICDE 2018), recovery from flush rounds.
use Rattle.std.specs.Prelude.{◌≡◌, ℕ, ◌%◌, ◌==◌, List, [], length, filter, false}
use Rattle.std.specs.List.{AllByRecursion}
use Rattle.cube_values.specs.declared.row.CodedRow.{CodedRow}
use Rattle.cube_values.specs.declared.shape.CubeShape.{CubeShape}
use Rattle.cube_values.specs.declared.snapshot.Snapshot.{Snapshot}
use Rattle.cube_values.specs.Batches.{Batch}
use Rattle.brick_address.specs.Addresses.{AreCoords, brick_of}
use Rattle.cube_rounds.specs.declared.round.Round.{Round}
use Rattle.cube_rounds.specs.KeptRows.{kept_rows_of_brick}

-- A reader at an epoch.
abbrev pub reader_at : ℕ → Snapshot
reader_at epoch = record { epoch = epoch; deps = []; own = false }

-- A row of the cube, in a brick of the shard.
pub record LiesInShard (shape : CubeShape) (shards shard : ℕ) (row : CodedRow) : Type 0 where
  pub coords : AreCoords shape.shape.sizes row.coords
  pub metrics : length row.metrics ≡ shape.metrics
  pub of_shard : brick_of shape.shape.sizes row.coords % shards ≡ shard

-- A batch has of each brick of the shard the rows that rounds keep for a reader at an epoch, in their order, and no
-- other rows.
pub record IsKeptBatch (shape : CubeShape) (place epoch : ℕ) (rounds : List Round) (shards shard : ℕ)
    (batch : Batch) : Type 0 where
  pub rows : (number : ℕ) → number % shards ≡ shard
      → filter (λ row. brick_of shape.shape.sizes row.coords == number) batch.rows
      ≡ kept_rows_of_brick (reader_at epoch) place number rounds
  pub of_cube : AllByRecursion (LiesInShard shape shards shard) batch.rows
  pub dims : batch.dims ≡ length shape.shape.sizes
  pub width : batch.width ≡ shape.metrics
