-- Batches of rows by coordinates, kept flat: all coordinates in one list and all metrics in another.
use Rattle.std.specs.Prelude.{◌≡◌, ℕ, ◌-◌, ◌*◌, ◌≤◌, ℤ, List, [], length, map, take, drop, slice_index_or}
use Rattle.std.specs.List.{range_with_len}
use Rattle.cube_values.specs.declared.row.CodedRow.{CodedRow}

-- A batch: its rows, of so many dimensions and metrics each, and how many rows there is memory for.
pub record Batch : Type 0 where
  pub rows : List CodedRow
  pub dims : ℕ
  pub width : ℕ
  pub room : ℕ

-- A row has so many coordinates and so many metrics.
pub record HasWidths (dims width : ℕ) (row : CodedRow) : Type 0 where
  pub coords : length row.coords ≡ dims
  pub metrics : length row.metrics ≡ width

-- Row i, and past the last one a row without items.
abbrev pub coded_row_at : List CodedRow → ℕ → CodedRow
coded_row_at rows i = slice_index_or rows i (record { coords = []; metrics = [] })

-- The rows from one place up to another.
abbrev pub rows_between : ℕ → ℕ → List CodedRow → List CodedRow
rows_between from to rows = take (to - from) (drop from rows)

-- Part i of a list that is cut into parts of one length.
abbrev pub nth_part : {T : Type 0} → ℕ → List T → ℕ → List T
nth_part length items i = take length (drop (i * length) items)

-- Row i of flat lists.
abbrev pub flat_row : ℕ → ℕ → List ℕ → List ℤ → ℕ → CodedRow
flat_row dims width coords metrics i = record { coords = nth_part dims coords i; metrics = nth_part width metrics i }

-- The first n rows of flat lists.
abbrev pub flat_rows : ℕ → ℕ → List ℕ → List ℤ → ℕ → List CodedRow
flat_rows dims width coords metrics n = map (flat_row dims width coords metrics) (range_with_len 0 n)

-- A flat list has just the items of n parts of one length, and memory for `room` parts.
pub record IsFlat {T : Type 0} (width n room capacity : ℕ) (items : List T) : Type 0 where
  pub long : length items ≡ n * width
  pub memory : room * width ≤ capacity
