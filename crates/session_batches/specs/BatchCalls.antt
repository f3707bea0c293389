-- The calls on shards that append batches, one for each shard: those without rows are left out.
-- Source: this project's own.
use Rattle.std.specs.Prelude.{◌≡◌, ℕ, ◌+◌, List, [], ◌∷◌, ◌++◌, if◌then◌else◌}
use Rattle.std.specs.List.{AllByRecursion}
use Rattle.cube_values.specs.Batches.{Batch}
use Rattle.cube_values.specs.declared.shape.CubeShape.{CubeShape}
use Rattle.cube_core.specs.declared.shard.ShardCall.{ShardCall}
use Rattle.cube_core.specs.declared.shard.ShardCall.TheVariants as shard
use Rattle.shard_batches.specs.ShardBatches.{AreShardBatches}
use Rattle.session_batches.specs.RowPosts.{has_rows}

-- The number of a shard, where its batch has rows.
abbrev pub number_with_rows : ℕ → Batch → List ℕ
number_with_rows number batch = if has_rows batch.rows then number ∷ [] else []

-- The numbers of the batches that have rows, where the first batch is that of a number.
abbrev pub numbers_with_rows : ℕ → List Batch → List ℕ
numbers_with_rows first [] = []
numbers_with_rows first (batch ∷ batches) = number_with_rows first batch ++ numbers_with_rows (first + 1) batches

-- The call that appends a batch, where it has rows.
abbrev pub append_call : ℕ → CubeShape → ℕ → Batch → List ShardCall
append_call cube shape epoch batch = if has_rows batch.rows then shard.Append cube shape epoch batch ∷ [] else []

abbrev pub append_calls : ℕ → CubeShape → ℕ → List Batch → List ShardCall
append_calls cube shape epoch [] = []
append_calls cube shape epoch (batch ∷ batches) =
    append_call cube shape epoch batch ++ append_calls cube shape epoch batches

-- Calls append the rows of a whole batch, each to the shard of its brick, and these are their shards' numbers.
pub record AreAppendsOf (shards cube : ℕ) (shape : CubeShape) (epoch : ℕ) (whole : Batch) (numbers : List ℕ)
    (calls : List ShardCall) : Type 0 where
  pub batches : List Batch
  pub split : AreShardBatches shape.shape.sizes shards whole batches
  pub numbers_are : numbers ≡ numbers_with_rows 0 batches
  pub calls_are : calls ≡ append_calls cube shape epoch batches

-- Calls that append.
abbrev pub IsAppend : ShardCall → Type 0
IsAppend (shard.Append cube shape epoch rows) = Unit {0}
IsAppend c = ⊥

abbrev pub AreAppends : List ShardCall → Type 0
AreAppends calls = AllByRecursion IsAppend calls
