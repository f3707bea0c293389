-- The rows of a brick by cells: one cell for each combination of offsets in the dimensions of a group.
-- Source: dense arrays for grouping by small domains; the numbering is mixed radix, the first dimension lowest.
use Rattle.std.specs.Prelude.{◌≡◌, ℕ, ◌+◌, ◌-◌, ◌*◌, ◌^◌, ◌<◌, ◌==◌, nat_lt, ℤ, pos, List, [], ◌∷◌, ◌++◌, length, map, filter, take, drop, All, IsTrue, FitsSigned, slice_index, slice_index_or}
use Rattle.std.specs.Int.{w64}
use Rattle.cube_values.specs.declared.query.BoundItem.{BoundItem}
use Rattle.cube_values.specs.declared.query.BoundItem.TheVariants.{Group}
use Rattle.cube_values.specs.declared.query.BoundQuery.{BoundQuery}
use Rattle.cube_values.specs.Queries.{IsSoundQuery}
use Rattle.agg_fold.specs.declared.tally.Tally.{Tally}
use Rattle.agg_fold.specs.declared.tally.Tally.TheVariants.{Unused, Total, Least, Greatest}
use Rattle.agg_fold.specs.Tallies.{tally_of, number_for, IsSmall}
use Rattle.brick_columns.specs.Rows.{BrickRow, BrickRows, Layout, IsBrickRow, offset_at}
use Rattle.cube_values.specs.Spans.{span_has_row}
use Rattle.brick_store.specs.Whole.{HasSmallCoords, row_with_coords}
use Rattle.brick_store.specs.declared.cell_tallies.CellTallies.{CellTallies}
use Rattle.brick_store.specs.declared.cell_tallies.CellTallies.TheVariants.{Nothing, Sums, Lows, Highs}
use Rattle.brick_store.specs.declared.dense.Dense.{Dense}

-- How many cells there are.
abbrev pub cell_count : List ℕ → List ℕ → ℕ
cell_count ranges [] = 1
cell_count ranges (dim ∷ group) = slice_index ranges dim * cell_count ranges group

-- The cell of a row.
abbrev pub cell_of : List ℕ → List ℕ → BrickRow → ℕ
cell_of ranges [] row = 0
cell_of ranges (dim ∷ group) row = offset_at dim row + slice_index ranges dim * cell_of ranges group row

-- The rows of a cell, and those of the cells below one.
abbrev pub rows_in_cell : List ℕ → List ℕ → ℕ → List BrickRow → List BrickRow
rows_in_cell ranges group cell rows = filter (λ row. cell_of ranges group row == cell) rows

abbrev pub rows_below_cell : List ℕ → List ℕ → ℕ → List BrickRow → List BrickRow
rows_below_cell ranges group cell rows = filter (λ row. nat_lt (cell_of ranges group row) cell) rows

-- Their metrics.
abbrev pub cell_metrics : List ℕ → List ℕ → ℕ → List BrickRow → List (List ℤ)
cell_metrics ranges group cell rows = map (λ row. row.metrics) (rows_in_cell ranges group cell rows)

-- What is kept of a cell for an item.
abbrev pub cell_tally : CellTallies → ℕ → Tally
cell_tally Nothing cell = Unused
cell_tally (Sums sums) cell = Total (slice_index_or sums.items cell (pos 0))
cell_tally (Lows lows) cell = Least (slice_index_or lows.items cell (pos 0))
cell_tally (Highs highs) cell = Greatest (slice_index_or highs.items cell (pos 0))

-- It is kept for so many cells.
abbrev pub HasCells : ℕ → CellTallies → Type 0
HasCells n Nothing = Unit {0}
HasCells n (Sums sums) = length sums.items ≡ n
HasCells n (Lows lows) = length lows.items ≡ n
HasCells n (Highs highs) = length highs.items ≡ n

-- A tally is the one that is told among a sum, a least and a greatest number.
abbrev pub IsToldBy : ℤ → ℤ → ℤ → Tally → Type 0
IsToldBy sum low high Unused = Unit {0}
IsToldBy sum low high (Total n) = sum ≡ n
IsToldBy sum low high (Least n) = low ≡ n
IsToldBy sum low high (Greatest n) = high ≡ n

-- The number that an item asks of a row has 64 bits, and so have those that items ask.
abbrev pub HasFitNumber : BoundItem → BrickRow → Type 0
HasFitNumber item row = FitsSigned w64 (number_for item row.metrics)

abbrev pub HasFitNumbers : List BoundItem → BrickRow → Type 0
HasFitNumbers items row = All (λ item. HasFitNumber item row) items

-- The tally of each item for each cell is that of the cell's rows.
abbrev pub AreTalliesOf : List ℕ → BoundQuery → ℕ → List BrickRow → List CellTallies → Type 0
AreTalliesOf ranges query cells rows tallies =
    (i cell : ℕ) → i < length query.items → cell < cells
    → cell_tally (slice_index_or tallies i Nothing) cell
    ≡ tally_of (cell_metrics ranges query.group cell rows) (slice_index_or query.items i (Group 0))

-- So many cells have the counts and the tallies of rows, which are fewer than 2 ^ 63.
pub record HoldRows (ranges : List ℕ) (query : BoundQuery) (cells : ℕ) (rows : List BrickRow) (d : Dense) : Type 0 where
  pub few : length rows < 2 ^ 63
  pub fit : All (HasFitNumbers query.items) rows
  pub room : length d.counts.items ≡ cells
  pub counts : (cell : ℕ) → cell < cells → slice_index d.counts.items cell ≡ length (rows_in_cell ranges query.group cell rows)
  pub items : length d.tallies.items ≡ length query.items
  pub long : All (HasCells cells) d.tallies.items
  pub tallies : AreTalliesOf ranges query cells rows d.tallies.items

-- A row of a cell: it is of the layout, and its coordinates from these starts can be counted by 32 bits.
pub record IsRowOfCell (layout : Layout) (starts group : List ℕ) (cell : ℕ) (row : BrickRow) : Type 0 where
  pub brick : IsBrickRow layout row
  pub small : HasSmallCoords starts row
  pub number : cell ≡ cell_of layout.ranges group row

-- The rows of columns can be folded by the cells of a query's group: the query fits them, each range of the group
-- has an offset, 32 bits count the cells, and the numbers that the items ask for have 64 bits.
pub record CanFold (query : BoundQuery) (columns : BrickRows) : Type 0 where
  pub sound : IsSoundQuery query (length columns.layout.ranges) columns.layout.metrics
  pub wide : columns.layout.metrics < 2 ^ 32
  pub some : All (λ dim. 0 < slice_index columns.layout.ranges dim) query.group
  pub few : cell_count columns.layout.ranges query.group < 2 ^ 32
  pub rows : All (IsBrickRow columns.layout) columns.rows
  pub fit : All (HasFitNumbers query.items) columns.rows

-- Cells that have rows come to have more.
abbrev pub HoldMore : List ℕ → BoundQuery → ℕ → List BrickRow → Dense → Dense → Type 0
HoldMore ranges query cells more old new =
    (rows : List BrickRow) → length rows + length more < 2 ^ 63 → HoldRows ranges query cells rows old
    → HoldRows ranges query cells (rows ++ more) new

-- There are rows that cells have, so few that as many more may come.
abbrev pub CanHold : List ℕ → BoundQuery → ℕ → ℕ → Dense → Type 0
CanHold ranges query cells more d =
    (rows : List BrickRow) × HoldRows ranges query cells rows d × (length rows + more < 2 ^ 63)

-- The rows of columns from one place up to another.
abbrev pub columns_between : ℕ → ℕ → List BrickRow → List BrickRow
columns_between from to rows = take (to - from) (drop from rows)

-- A row that a query takes, as it lies in a brick.
pub record IsTakenRow (layout : Layout) (starts : List ℕ) (query : BoundQuery) (row : BrickRow) : Type 0 where
  pub brick : IsBrickRow layout row
  pub small : HasSmallCoords starts row
  pub inside : IsTrue (span_has_row query.span (row_with_coords starts row))
  pub fit : HasFitNumbers query.items row

-- For an item the tally of a cell has its rows of some more.
pub record TalliesMore (ranges group : List ℕ) (item : BoundItem) (more : List BrickRow) (old new : CellTallies) : Type 0 where
  pub long : (n : ℕ) → HasCells n old → HasCells n new
  pub tallied :
      (n cell : ℕ) (before : List (List ℤ)) → HasCells n old → cell < n
      → cell_tally old cell ≡ tally_of before item
      → cell_tally new cell ≡ tally_of (before ++ cell_metrics ranges group cell more) item

-- These are the cells of the rows of columns from one on.
abbrev pub AreCellsFrom : BrickRows → List ℕ → ℕ → List ℕ → Type 0
AreCellsFrom columns group from cells =
    cells ≡ map (cell_of columns.layout.ranges group) (columns_between from (from + length cells) columns.rows)

-- The sums lie within 2 ^ 126.
abbrev pub HasSmallTallies : CellTallies → Type 0
HasSmallTallies tally = (n cell : ℕ) → HasCells n tally → cell < n → IsSmall (cell_tally tally cell)
