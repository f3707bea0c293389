use Rattle.std.proofs.Common.{◌≡◌, ℕ, List, ◌+◌, ◌*◌, ◌^◌, ◌<◌, length, All}
use Rattle.packed_words.specs.Counted.{AreAddedUpTo, StandAt}
use Rattle.packed_words.proofs.counted.count_each.Given as goal

abbrev pub invariant-numbers : goal.invariant-numbers
invariant-numbers l = record {
  long : length l.sums ≡ length l.initial.sums;
  room : All (λ sum. sum < (l.k + 1) * 2 ^ 53) l.sums;
  counted :
      (cells : List ℕ) → length cells ≡ length l.numbers → StandAt l.words l.place l.step l.width cells
      → AreAddedUpTo l.from cells l.numbers l.initial.sums
      → AreAddedUpTo l.k cells l.numbers l.sums;
}
