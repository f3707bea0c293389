use Rattle.std.proofs.Common.{◌≡◌, ℕ, ◌+◌, ◌<◌, ◌≤◌, get_or}
use Rattle.packed_words.specs.Counted.{counted_in}
use Rattle.brick_store.proofs.counted_chunks.take_counts.Given as goal

abbrev pub invariant-cells : goal.invariant-cells
invariant-cells l = record {
  below : (j : ℕ) → j < l.cell → get_or l.counts j 0 ≡ get_or l.initial.counts j 0 + counted_in (get_or l.words j 0);
  rest : (j : ℕ) → l.cell ≤ j → get_or l.counts j 0 ≡ get_or l.initial.counts j 0;
}
