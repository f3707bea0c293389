use Rattle.std.proofs.Common.{◌≡◌, ℕ, ◌-◌, ◌<◌, ◌≤◌, not}
use Rattle.cube_values.specs.BitRows.{is_set}
use Rattle.cube_values.proofs.bits.next_of_words.Given as goal

abbrev pub invariant-words : goal.invariant-words
invariant-words l = record {
  after : l.from ≤ l.at;
  within : l.at ≤ l.len;
  between : (i : ℕ) → l.from ≤ i → i < l.at → is_set l.words i ≡ not l.on;
}

abbrev pub decreases-words : goal.decreases-words
decreases-words l = l.len - l.at
