-- Bits of rows of which those outside a span are cleared.
use Rattle.std.specs.Prelude.{◌≡◌, ℕ, ◌+◌, ◌≤◌, ◌<◌, ◌⊎◌, Bool, ◌&&◌, false, List, length, slice_index_or}
use Rattle.cube_values.specs.declared.span.Part.{Part}
use Rattle.cube_values.specs.Spans.{part_has}
use Rattle.brick_columns.specs.Rows.{BrickRow, offset_at, row_at}

-- A part has the coordinate of a row in a dimension that starts at one.
abbrev pub part_has_row : Part → ℕ → ℕ → BrickRow → Bool
part_has_row part start dim row = part_has part (start + offset_at dim row)

-- A bit of a list.
abbrev pub bit_of : List Bool → ℕ → Bool
bit_of bits i = slice_index_or bits i false

-- The bits of the rows from one place up to another are cleared where the row fails a test. The others stay.
pub record AreClearedFrom (test : BrickRow → Bool) (rows : List BrickRow) (from to : ℕ) (old new : List Bool) : Type 0 where
  pub long : length new ≡ length old
  pub inside : (i : ℕ) → from ≤ i → i < to → bit_of new i ≡ (bit_of old i && test (row_at rows i))
  pub others : (i : ℕ) → (i < from) ⊎ (to ≤ i) → bit_of new i ≡ bit_of old i

-- The bits of all rows are.
abbrev pub AreCleared : (BrickRow → Bool) → List BrickRow → List Bool → List Bool → Type 0
AreCleared test rows old new = AreClearedFrom test rows 0 (length rows) old new
