-- The bricks of one cube on a shard, as contracts see them: of each brick number the rows and the entries of the
-- brick. A brick that is not there is seen as it would be born now, with the marks of the deletions that wait for it.
-- Source: Cubrick (VLDB 2016), bricks that are made when their first row comes; AOSI (ICDE 2018), deletion markers.
-- That deletions wait for bricks which are not there yet is this project's own.
use Rattle.std.specs.Prelude.{ℕ, ◌+◌, ◌==◌, Bool, List, [], ◌∷◌, ◌++◌, length, map, filter, fold, replicate, sum_by, Option, Some, None, if◌then◌else◌}
use Rattle.std.specs.List.{flat_map, items_where_true}
use Rattle.std.specs.Option.{option_map_or}
use Rattle.cube_values.specs.declared.entry.Entry.{Entry}
use Rattle.cube_values.specs.declared.entry.Entry.TheVariants.{Run, Mark}
use Rattle.cube_values.specs.declared.row.CodedRow.{CodedRow}
use Rattle.cube_values.specs.declared.shape.CubeShape.{CubeShape}
use Rattle.cube_values.specs.declared.shape.Size.{Size}
use Rattle.cube_values.specs.declared.snapshot.Snapshot.{Snapshot}
use Rattle.cube_values.specs.declared.span.Span.{Span}
use Rattle.cube_values.specs.EpochsVector.{vector_with_entry}
use Rattle.cube_values.specs.Spans.{span_has}
use Rattle.brick_address.specs.Addresses.{brick_of, coords_of}
use Rattle.epochs_vector.specs.Without.{staying_bits, entries_without}
use Rattle.purge_plan.specs.Purged.{spared_bits, purged_entries}
use Rattle.brick_store.specs.Bricks.{BrickState}
use Rattle.brick_store.specs.Deltas.{rows_apart}
use Rattle.brick_store.specs.Rows.{rows_shown}
use Rattle.brick_map.specs.declared.deletion.Deletion.{Deletion}

-- What a brick has: rows in order, and the vector of epochs over them.
pub record BrickContent : Type 0 where
  pub rows : List CodedRow
  pub entries : List Entry

-- The shape of the cube, the bricks that are there in the order of their births, and the deletions that wait for
-- bricks, the oldest first.
pub record CubeState : Type 0 where
  pub shape : CubeShape
  pub bricks : List BrickState
  pub recent : List Deletion

abbrev pub cube_sizes : CubeState → List Size
cube_sizes cube = cube.shape.shape.sizes

-- A box that cuts no brick has all of a brick where it has the brick's first coordinates.
abbrev pub has_brick : List Size → Span → ℕ → Bool
has_brick sizes box number = span_has box (coords_of sizes number (replicate (length sizes) 0))

-- The deletions that a brick waits for, as marks before its first row.
abbrev pub birth_marks : List Size → List Deletion → ℕ → List Entry
birth_marks sizes recent number = map (λ d. Mark d.epoch 0) (filter (λ d. has_brick sizes d.span number) recent)

-- A brick that is born has no rows, and these marks.
abbrev pub newborn : List Size → List Deletion → ℕ → BrickContent
newborn sizes recent number =
    record { rows = []; entries = fold vector_with_entry [] (birth_marks sizes recent number) }

abbrev pub content_of_brick : BrickState → BrickContent
content_of_brick b = record { rows = b.rows; entries = b.entries }

-- The brick of a number.
abbrev pub brick_numbered : ℕ → List BrickState → Option BrickState
brick_numbered number [] = None
brick_numbered number (b ∷ bricks) = if b.home.number == number then Some b else brick_numbered number bricks

-- What the brick of a number has, there or not.
abbrev pub content_among : List Size → List Deletion → List BrickState → ℕ → BrickContent
content_among sizes recent bricks number =
    option_map_or content_of_brick (brick_numbered number bricks) (newborn sizes recent number)

abbrev pub brick_in : CubeState → ℕ → BrickContent
brick_in cube number = content_among (cube_sizes cube) cube.recent cube.bricks number

-- How many rows bricks have.
abbrev pub rows_count : List BrickState → ℕ
rows_count bricks = sum_by (λ b. length b.rows) bricks

-- Of rows those of a brick.
abbrev pub rows_of_brick : List Size → ℕ → List CodedRow → List CodedRow
rows_of_brick sizes number rows = filter (λ row. brick_of sizes row.coords == number) rows

-- What calls make of what a brick has.

-- Rows of an epoch are appended.
abbrev pub content_with_rows : ℕ → List CodedRow → BrickContent → BrickContent
content_with_rows epoch [] c = c
content_with_rows epoch (row ∷ rows) c = record {
  rows = c.rows ++ row ∷ rows;
  entries = vector_with_entry c.entries (Run epoch (length c.rows + length (row ∷ rows)));
}

-- An epoch deletes the rows.
abbrev pub content_with_mark : ℕ → BrickContent → BrickContent
content_with_mark epoch c =
    record { rows = c.rows; entries = vector_with_entry c.entries (Mark epoch (length c.rows)) }

-- An epoch is taken back.
abbrev pub content_without : ℕ → BrickContent → BrickContent
content_without epoch c = record {
  rows = items_where_true (staying_bits epoch c.entries) c.rows;
  entries = entries_without epoch c.entries;
}

-- What no snapshot needs is taken out.
abbrev pub content_purged : ℕ → BrickContent → BrickContent
content_purged epoch c = record {
  rows = items_where_true (spared_bits epoch c.entries) c.rows;
  entries = purged_entries epoch c.entries;
}

-- The rows that a query finds, brick by brick in the order of births.
abbrev pub rows_found : Span → Snapshot → List BrickState → List CodedRow
rows_found span snapshot bricks = flat_map (λ b. rows_shown span snapshot b.entries b.rows) bricks

-- The rows that one snapshot finds and another does not, brick by brick in the order of births.
abbrev pub rows_found_apart : Span → Snapshot → Snapshot → List BrickState → List CodedRow
rows_found_apart span one other bricks = flat_map (λ b. rows_apart span one other b.entries b.rows) bricks
