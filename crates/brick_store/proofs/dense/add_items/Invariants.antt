use Rattle.std.proofs.Common.{◌≡◌, ℕ, ◌+◌, ◌<◌, ◌≤◌, length, get_or}
use Rattle.cube_values.specs.declared.query.BoundItem.TheVariants.{Group}
use Rattle.brick_store.specs.Cells.{TalliesMore, columns_between}
use Rattle.brick_store.specs.declared.cell_tallies.CellTallies.TheVariants.{Nothing}
use Rattle.brick_store.proofs.dense.add_items.Given as goal

abbrev pub invariant-items : goal.invariant-items
invariant-items l = record {
  front : (k : ℕ) → k < l.i → TalliesMore l.columns.layout.ranges l.group (get_or l.items k (Group 0)) (columns_between l.from (l.from + length l.cells) l.columns.rows) (get_or l.initial.tallies k Nothing) (get_or l.tallies k Nothing);
  rest : (k : ℕ) → l.i ≤ k → get_or l.tallies k Nothing ≡ get_or l.initial.tallies k Nothing;
}
