use Rattle.std.proofs.Common.{ℕ, ◌<◌, pos, get_or}
use Rattle.brick_store.specs.Cells.{cell_tally, IsToldBy}
use Rattle.brick_store.specs.declared.cell_tallies.CellTallies.TheVariants.{Nothing}
use Rattle.brick_store.proofs.dense.tell.Given as goal

abbrev pub invariant-items : goal.invariant-items
invariant-items l = (k : ℕ) → k < l.i → IsToldBy (get_or l.sums k (pos 0)) (get_or l.lows k (pos 0)) (get_or l.highs k (pos 0)) (cell_tally (get_or l.tallies k Nothing) l.cell)
