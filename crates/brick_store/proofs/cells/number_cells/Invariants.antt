use Rattle.std.proofs.Common.{◌≡◌, ℕ, ◌+◌, ◌-◌, ◌<◌, length, drop, get_or}
use Rattle.brick_columns.specs.Rows.{row_at}
use Rattle.brick_store.specs.Cells.{cell_of}
use Rattle.brick_store.proofs.cells.number_cells.Given as goal

abbrev pub invariant-dims : goal.invariant-dims
invariant-dims l = (k : ℕ) → k < length l.initial.cells → get_or l.cells k 0 ≡ cell_of l.columns.layout.ranges (drop (length l.group - l.done) l.group) (row_at l.columns.rows (l.from + k))
