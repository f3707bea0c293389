use Rattle.std.proofs.Common.{◌≡◌, ℕ, ◌+◌, ◌*◌, ◌^◌, ◌<◌, get_or}
use Rattle.cube_values.specs.BitRows.{has_bit, is_set}
use Rattle.packed_words.proofs.word_bits.read_each.Given as goal

abbrev pub invariant-numbers : goal.invariant-numbers
invariant-numbers l = record {
  bits : (j bit : ℕ) → j < l.k → bit < l.width → has_bit (get_or l.numbers j 0) bit ≡ is_set l.words (l.place + j * l.step + bit);
  below : (j : ℕ) → j < l.k → get_or l.numbers j 0 < 2 ^ l.width;
}
