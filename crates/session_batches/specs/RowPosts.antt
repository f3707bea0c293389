-- What is posted to put rows of a cube: to each shard that has some of them, these.
-- Source: Cubrick (VLDB 2016), where the rows of a batch go to the shards of their bricks; AOSI (ICDE 2018), appends of
-- a transaction.
use Rattle.std.specs.Prelude.{ℕ, ◌==◌, Bool, not, List, length, filter, map, reverse}
use Rattle.std.specs.List.{range_with_len}
use Rattle.cube_values.specs.declared.row.CodedRow.{CodedRow}
use Rattle.cube_values.specs.declared.shape.Size.{Size}
use Rattle.core_events.specs.Events.{Post, ClientCall}
use Rattle.core_events.specs.Jobs.{Append}
use Rattle.shard_batches.specs.ShardBatches.{rows_of_shard}

abbrev pub has_rows : List CodedRow → Bool
has_rows rows = not (length rows == 0)

-- The shards that have some of the rows, in order.
abbrev pub shards_with_rows : List Size → ℕ → List CodedRow → List ℕ
shards_with_rows sizes shards rows =
    filter (λ shard. has_rows (rows_of_shard sizes shards shard rows)) (range_with_len 0 shards)

-- The post of a shard's rows, of one cube and at one epoch.
abbrev pub row_post : List Size → ℕ → ℕ → ℕ → List CodedRow → ℕ → ClientCall
row_post sizes shards cube epoch rows shard = Post shard (Append cube epoch (rows_of_shard sizes shards shard rows))

-- One to each shard that has some, the newest first.
abbrev pub row_posts : List Size → ℕ → ℕ → ℕ → List CodedRow → List ClientCall
row_posts sizes shards cube epoch rows =
    reverse (map (row_post sizes shards cube epoch rows) (shards_with_rows sizes shards rows))
