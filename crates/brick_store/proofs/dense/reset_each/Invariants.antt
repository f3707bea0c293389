use Rattle.std.proofs.Common.{◌≡◌, ℕ, ◌<◌, [], get_or}
use Rattle.cube_values.specs.declared.query.BoundItem.TheVariants.{Group}
use Rattle.agg_fold.specs.Tallies.{tally_of}
use Rattle.brick_store.specs.Cells.{HasCells, cell_tally}
use Rattle.brick_store.specs.declared.cell_tallies.CellTallies.TheVariants.{Nothing}
use Rattle.brick_store.proofs.dense.reset_each.Given as goal

abbrev pub invariant-items : goal.invariant-items
invariant-items l = record {
  long : (i : ℕ) → i < l.i → HasCells l.cells (get_or l.tallies i Nothing);
  empty : (i cell : ℕ) → i < l.i → cell < l.cells → cell_tally (get_or l.tallies i Nothing) cell ≡ tally_of [] (get_or l.items i (Group 0));
}
