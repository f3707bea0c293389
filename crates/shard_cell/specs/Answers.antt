-- What the calls of a shard answer and change.
use Rattle.std.specs.Prelude.{◌≡◌, ℕ, ◌+◌, ◌<◌, ◌≤◌, ◌==◌, ◌&&◌, List, [], ◌∷◌, ◌++◌, false, Result, Ok, Err, if◌then◌else◌}
use Rattle.cube_values.specs.declared.call_error.CallError.{CallError}
use Rattle.cube_values.specs.declared.call_error.CallError.TheVariants.{Fault, NoMemory}
use Rattle.cube_values.specs.declared.row.CodedRow.{CodedRow}
use Rattle.cube_values.specs.declared.shape.Size.{Size}
use Rattle.cube_values.specs.declared.span.Span.{Span}
use Rattle.cube_values.specs.declared.snapshot.Snapshot.{Snapshot}
use Rattle.brick_map.specs.declared.deletion.Deletion.{Deletion}
use Rattle.brick_map.specs.Births.{BrickContent, content_with_mark, content_with_rows, has_brick, rows_of_brick}
use Rattle.brick_store.specs.Deltas.{rows_apart}
use Rattle.brick_store.specs.Rows.{rows_shown}
use Rattle.shard_cell.specs.declared.full.ShardFull.{ShardFull}
use Rattle.shard_cell.specs.Shards.{ShardState, shard_brick, shard_rows, shard_waits}

-- A batch is refused exactly where the rows that the shard has and those of the batch are above the limit; the refusal
-- says how many it has.
abbrev pub RefusesAbove : {T : Type 0} → ℕ → ℕ → ℕ → Result T (CallError ShardFull) → Type 0
RefusesAbove limit rows more (Ok done) = rows + more ≤ limit
RefusesAbove limit rows more (Err (Fault full)) = (limit < rows + more) × (full.rows ≡ rows)
RefusesAbove limit rows more (Err NoMemory) = rows + more ≤ limit

-- Each brick, there or not, has what it had, and there are as many rows, and the same deletions wait.
pub record HasSameShard (old new : ShardState) : Type 0 where
  pub bricks : (cube number : ℕ) → shard_brick new cube number ≡ shard_brick old cube number
  pub rows : shard_rows new ≡ shard_rows old
  pub waits : (cube : ℕ) → shard_waits new cube ≡ shard_waits old cube

-- Rows of an epoch are appended to the bricks of a cube.
abbrev pub brick_after_append : List Size → ℕ → ℕ → List CodedRow → ShardState → ℕ → ℕ → BrickContent
brick_after_append sizes cube epoch rows shard other number =
    if other == cube then content_with_rows epoch (rows_of_brick sizes number rows) (shard_brick shard other number)
    else shard_brick shard other number

-- An epoch deletes the rows of the bricks of a cube that a box has.
abbrev pub brick_after_drop : List Size → ℕ → ℕ → Span → ShardState → ℕ → ℕ → BrickContent
brick_after_drop sizes cube epoch box shard other number =
    if other == cube && has_brick sizes box number then content_with_mark epoch (shard_brick shard other number)
    else shard_brick shard other number

-- The deletion waits for the cube's bricks that are not there.
abbrev pub waits_after_drop : ℕ → ℕ → Span → ShardState → ℕ → List Deletion
waits_after_drop cube epoch box shard other =
    if other == cube then shard_waits shard other ++ record { epoch = epoch; span = box } ∷ []
    else shard_waits shard other

-- The rows of a brick that a snapshot sees and a span has, and those that another snapshot does not see besides.
abbrev pub brick_rows_shown : Span → Snapshot → BrickContent → List CodedRow
brick_rows_shown span snapshot c = rows_shown span snapshot c.entries c.rows

abbrev pub brick_rows_apart : Span → Snapshot → Snapshot → BrickContent → List CodedRow
brick_rows_apart span one other c = rows_apart span one other c.entries c.rows

-- A reader at an epoch.
abbrev pub reader_at : ℕ → Snapshot
reader_at epoch = record { epoch = epoch; deps = []; own = false }
