-- Chunks of rows that are folded by counts and sums side by side in one word for each cell.
-- Source: a sum and a count side by side in one machine word; the form is this project's own.
use Rattle.std.specs.Prelude.{◌≡◌, ℕ, ◌<◌, ◌≤◌, ℤ, ◌+ℤ◌, List, [], ◌∷◌, All, slice_index}
use Rattle.cube_values.specs.declared.query.BoundItem.{BoundItem}
use Rattle.cube_values.specs.declared.query.BoundItem.TheVariants.{Group, Count, Sum, Min, Max, Avg}
use Rattle.cube_values.specs.declared.query.BoundQuery.{BoundQuery}
use Rattle.agg_fold.specs.declared.tally.Tally.TheVariants.{Unused, Total}
use Rattle.packed_words.specs.Counted.{summed_in}
use Rattle.brick_columns.specs.Rows.{BrickRows, HasShortMetrics}
use Rattle.brick_columns.specs.declared.columns.TheConstants.{COUNTED_CELLS}
use Rattle.brick_store.specs.Cells.{cell_tally, HasCells}
use Rattle.brick_store.specs.declared.cell_tallies.CellTallies.{CellTallies}

-- An item asks for the sum of one metric, or for no metric.
abbrev pub SumsAtMost : ℕ → BoundItem → Type 0
SumsAtMost metric (Group dim) = Unit {0}
SumsAtMost metric Count = Unit {0}
SumsAtMost metric (Sum m) = m ≡ metric
SumsAtMost metric (Avg m) = m ≡ metric
SumsAtMost metric (Min m) = ⊥
SumsAtMost metric (Max m) = ⊥

-- The rows of columns can be counted and summed in words: the group is one dimension of few offsets, the metrics are
-- short, and the items ask for no more than the sum of one metric.
pub record CanCount (query : BoundQuery) (columns : BrickRows) (dim metric : ℕ) : Type 0 where
  pub group : query.group ≡ dim ∷ []
  pub range : slice_index columns.layout.ranges dim ≤ COUNTED_CELLS
  pub short : All HasShortMetrics columns.rows
  pub one : metric < columns.layout.metrics
  pub items : All (SumsAtMost metric) query.items

-- What is kept of cells takes what words have summed, where sums are kept.
pub record TakesSums (words : List ℕ) (old new : CellTallies) : Type 0 where
  pub long : (n : ℕ) → HasCells n old → HasCells n new
  pub sums :
      (n cell : ℕ) (sum : ℤ) → HasCells n old → cell < n → cell_tally old cell ≡ Total sum
      → cell_tally new cell ≡ Total (sum +ℤ summed_in (slice_index words cell))
  pub others : (cell : ℕ) → cell_tally old cell ≡ Unused → cell_tally new cell ≡ Unused
