-- What the calls make of bricks in a list.
use Rattle.std.specs.Prelude.{◌≡◌, ℕ, ◌+◌, ◌-◌, ◌<◌, ◌≤◌, ◌==◌, max, List, [], ◌∷◌, ◌++◌, length, All, if◌then◌else◌}
use Rattle.std.specs.List.{items_where_true}
use Rattle.std.specs.Option.{option_map_or}
use Rattle.cube_values.specs.declared.entry.Entry.TheVariants.{Run, Mark}
use Rattle.cube_values.specs.declared.row.CodedRow.{CodedRow}
use Rattle.cube_values.specs.declared.shape.CubeShape.{CubeShape}
use Rattle.cube_values.specs.declared.shape.Size.{Size}
use Rattle.cube_values.specs.declared.span.Span.{Span}
use Rattle.cube_values.specs.EpochsVector.{vector_with_entry}
use Rattle.cube_values.specs.Queries.{IsSoundQuery}
use Rattle.cube_values.specs.Shapes.{bricks_of}
use Rattle.cube_values.specs.Spans.{IsSoundPart}
use Rattle.cube_values.specs.declared.query.BoundQuery.{BoundQuery}
use Rattle.epochs_vector.specs.Without.{staying_bits, entries_without}
use Rattle.purge_plan.specs.Purged.{spared_bits, purged_entries}
use Rattle.brick_store.specs.Bricks.{Home, BrickState, IsRowOf}
use Rattle.brick_map.specs.Births.{has_brick, brick_numbered}

-- Which brick of a cube it is.
abbrev pub home_of : CubeShape → ℕ → Home
home_of shape number = record { sizes = shape.shape.sizes; metrics = shape.metrics; number = number }

-- A brick of the cube.
pub record IsBrickOf (shape : CubeShape) (b : BrickState) : Type 0 where
  pub home : b.home ≡ home_of shape b.home.number
  pub number : b.home.number < bricks_of shape.shape.sizes

-- The brick of a number is changed.
abbrev pub bricks_with : ℕ → (BrickState → BrickState) → List BrickState → List BrickState
bricks_with number change [] = []
bricks_with number change (b ∷ bricks) =
    if b.home.number == number then change b ∷ bricks else b ∷ bricks_with number change bricks

-- Memory for more rows and entries.
abbrev pub brick_with_room : ℕ → ℕ → BrickState → BrickState
brick_with_room rows entries b =
    record b { spare_rows = max b.spare_rows rows; spare_entries = max b.spare_entries entries }

-- Rows of an epoch are appended.
abbrev pub brick_with_rows : ℕ → List CodedRow → BrickState → BrickState
brick_with_rows epoch rows b = record b {
  rows = b.rows ++ rows;
  entries = vector_with_entry b.entries (Run epoch (length b.rows + length rows));
  spare_rows = b.spare_rows - length rows;
  spare_entries = b.spare_entries - 1;
}

-- An epoch deletes the rows.
abbrev pub brick_with_mark : ℕ → BrickState → BrickState
brick_with_mark epoch b = record b {
  entries = vector_with_entry b.entries (Mark epoch (length b.rows));
  spare_entries = b.spare_entries - 1;
}

-- A box that has the brick is deleted by an epoch.
abbrev pub brick_after_deletion : List Size → Span → ℕ → BrickState → BrickState
brick_after_deletion sizes box epoch b =
    if has_brick sizes box b.home.number then brick_with_mark epoch b else b

-- Memory for a mark where the box has the brick.
abbrev pub brick_before_deletion : List Size → Span → BrickState → BrickState
brick_before_deletion sizes box b = if has_brick sizes box b.home.number then brick_with_room 0 1 b else b

-- There is memory for a mark where the box has the brick.
abbrev pub MayMark : List Size → Span → BrickState → Type 0
MayMark sizes box b = (if has_brick sizes box b.home.number then 1 else 0) ≤ b.spare_entries

abbrev pub brick_without : ℕ → BrickState → BrickState
brick_without epoch b = record b {
  rows = items_where_true (staying_bits epoch b.entries) b.rows;
  entries = entries_without epoch b.entries;
}

abbrev pub brick_purged : ℕ → BrickState → BrickState
brick_purged epoch b = record b {
  rows = items_where_true (spared_bits epoch b.entries) b.rows;
  entries = purged_entries epoch b.entries;
}

-- The same brick with the same rows and entries.
pub record HasSame (old new : BrickState) : Type 0 where
  pub home : new.home ≡ old.home
  pub rows : new.rows ≡ old.rows
  pub entries : new.entries ≡ old.entries

-- For how many rows and entries the brick of a number has memory; none where it is not there.
abbrev pub spare_rows_at : ℕ → List BrickState → ℕ
spare_rows_at number bricks = option_map_or (λ b. b.spare_rows) (brick_numbered number bricks) 0

abbrev pub spare_entries_at : ℕ → List BrickState → ℕ
spare_entries_at number bricks = option_map_or (λ b. b.spare_entries) (brick_numbered number bricks) 0

-- What a brick takes: rows of its own, for which it has memory, and an entry.
pub record TakesRows (rows : List CodedRow) (b : BrickState) : Type 0 where
  pub own : All (IsRowOf b.home) rows
  pub room : length rows ≤ b.spare_rows
  pub entry : 1 ≤ b.spare_entries

abbrev pub HasNumberBelow : ℕ → BrickState → Type 0
HasNumberBelow most b = b.home.number < most

-- A query fits the cube of a brick.
pub record IsAsked (query : BoundQuery) (b : BrickState) : Type 0 where
  pub sound : IsSoundQuery query (length b.home.sizes) b.home.metrics
  pub parts : All IsSoundPart query.span.parts

-- The rows of a brick are its own.
abbrev pub OwnsRows : BrickState → Type 0
OwnsRows b = All (IsRowOf b.home) b.rows
