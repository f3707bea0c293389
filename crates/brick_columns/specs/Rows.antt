-- The rows of a brick, as contracts see its columns.
-- Source: Cubrick (VLDB 2016), a brick's dimension columns as offsets in its ranges, beside its metric columns.
use Rattle.std.specs.Prelude.{◌≡◌, ℕ, ◌^◌, ◌<◌, ◌≤◌, ℤ, List, [], length, map, slice_index_or, slice_index, pos, All}
use Rattle.std.specs.List.{AllZip}
use Rattle.cube_values.specs.declared.row.CodedRow.{CodedRow}
use Rattle.cube_values.specs.declared.shape.Shape.{Shape}
use Rattle.packed_words.specs.Counted.{IsShort}
use Rattle.packed_words.specs.Rows.{differences}

-- A row: for each dimension the offset in the brick's range, and the metrics.
pub record BrickRow : Type 0 where
  pub offsets : List ℕ
  pub metrics : List ℤ

-- What the rows are of: the range size of each dimension, and the number of metrics.
pub record Layout : Type 0 where
  pub ranges : List ℕ
  pub metrics : ℕ

-- The rows of a brick, and how many more there is memory for.
pub record BrickRows : Type 0 where
  pub layout : Layout
  pub rows : List BrickRow
  pub spare : ℕ

-- The layout of a shape's rows with so many metrics.
abbrev pub layout_of : Shape → ℕ → Layout
layout_of shape metrics = record { ranges = map (λ size. size.range) shape.sizes; metrics = metrics }

-- A row of a layout: for each dimension an offset below its range size, and so many metrics.
pub record IsBrickRow (layout : Layout) (row : BrickRow) : Type 0 where
  pub offsets : AllZip ◌<◌ row.offsets layout.ranges
  pub metrics : length row.metrics ≡ layout.metrics

-- The metrics of a row are short.
abbrev pub HasShortMetrics : BrickRow → Type 0
HasShortMetrics row = All IsShort row.metrics

-- The least number of bits in which each number below a range can be written. A range of 1 takes none.
pub record IsWidth (range width : ℕ) : Type 0 where
  pub enough : range ≤ 2 ^ width
  pub least : (n : ℕ) → range ≤ 2 ^ n → width ≤ n

-- Row i, and past the last one a row without items.
abbrev pub row_at : List BrickRow → ℕ → BrickRow
row_at rows i = slice_index_or rows i (record { offsets = []; metrics = [] })

-- The offset of a row in a dimension.
abbrev pub offset_at : ℕ → BrickRow → ℕ
offset_at dim row = slice_index row.offsets dim

-- A metric of a row.
abbrev pub metric_at : ℕ → BrickRow → ℤ
metric_at m row = slice_index_or row.metrics m (pos 0)

-- A row by its coordinates, as a row by its offsets from the first coordinate of the brick in each dimension.
abbrev pub offset_row : List ℕ → CodedRow → BrickRow
offset_row starts row = record { offsets = differences row.coords starts; metrics = row.metrics }

-- No coordinate of a row lies below the start of its dimension, and the row by its offsets is of the layout.
pub record LiesFrom (layout : Layout) (starts : List ℕ) (row : CodedRow) : Type 0 where
  pub above : AllZip ◌≤◌ starts row.coords
  pub inside : IsBrickRow layout (offset_row starts row)
