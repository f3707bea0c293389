use Rattle.std.proofs.Common.{◌≡◌, ℕ, ◌<◌, ◌≤◌, get_or}
use Rattle.brick_store.specs.CountedChunks.{TakesSums}
use Rattle.brick_store.specs.declared.cell_tallies.CellTallies.TheVariants.{Nothing}
use Rattle.brick_store.proofs.counted_chunks.take_each.Given as goal

abbrev pub invariant-loop-tally : goal.invariant-loop-tally
invariant-loop-tally l = record {
  front : (k : ℕ) → k < l.tally-index → TakesSums l.words (get_or l.initial.tallies k Nothing) (get_or l.tallies k Nothing);
  rest : (k : ℕ) → l.tally-index ≤ k → get_or l.tallies k Nothing ≡ get_or l.initial.tallies k Nothing;
}
