use Rattle.std.proofs.Common.{◌≡◌, ℕ, ◌<◌, ◌≤◌, pos, ◌+ℤ◌, get_or}
use Rattle.packed_words.specs.Counted.{summed_in}
use Rattle.brick_store.proofs.counted_chunks.add_summed.Given as goal

abbrev pub invariant-cells : goal.invariant-cells
invariant-cells l = record {
  below : (j : ℕ) → j < l.cell → get_or l.sums j (pos 0) ≡ get_or l.initial.sums j (pos 0) +ℤ summed_in (get_or l.words j 0);
  rest : (j : ℕ) → l.cell ≤ j → get_or l.sums j (pos 0) ≡ get_or l.initial.sums j (pos 0);
}
