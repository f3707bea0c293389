use Rattle.std.proofs.Common.{◌≡◌, ℕ, ◌+◌, ◌-◌, ◌<◌, ◌≤◌, length}
use Rattle.cube_values.specs.BitRows.{is_set}
use Rattle.packed_words.proofs.packed_words.copy_bits.Given as goal

abbrev pub invariant-pieces : goal.invariant-pieces
invariant-pieces l = record {
  within : l.copied ≤ l.count;
  long : length l.words ≡ length l.initial.words;
  inside : (k : ℕ) → k < l.copied → is_set l.words (l.to + k) ≡ is_set l.initial.words (l.from + k);
  below : (i : ℕ) → i < l.to → is_set l.words i ≡ is_set l.initial.words i;
  above : (i : ℕ) → l.to + l.copied ≤ i → is_set l.words i ≡ is_set l.initial.words i;
}

abbrev pub decreases-pieces : goal.decreases-pieces
decreases-pieces l = l.count - l.copied
