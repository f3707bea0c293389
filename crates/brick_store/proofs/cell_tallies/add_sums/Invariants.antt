use Rattle.std.proofs.Common.{◌≡◌, ℕ, ◌+◌, ◌*◌, ◌^◌, ◌<◌, pos, ◌+ℤ◌, ◌<ℤ◌, neg_ℤ, length, take, fold, get_or}
use Rattle.packed_words.specs.Counted.{numbers_in}
use Rattle.brick_store.proofs.cell_tallies.add_sums.Given as goal

abbrev pub invariant-rows : goal.invariant-rows
invariant-rows l = record {
  value : (cell : ℕ) → cell < length l.initial.sums → get_or l.sums cell (pos 0) ≡ fold ◌+ℤ◌ (get_or l.initial.sums cell (pos 0)) (numbers_in cell (take l.i l.cells) (take l.i l.numbers));
  low : (cell : ℕ) → cell < length l.initial.sums → neg_ℤ (pos (2 ^ 126 + 2 ^ 63 * l.i)) <ℤ get_or l.sums cell (pos 0);
  high : (cell : ℕ) → cell < length l.initial.sums → get_or l.sums cell (pos 0) <ℤ pos (2 ^ 126 + 2 ^ 63 * l.i);
}
