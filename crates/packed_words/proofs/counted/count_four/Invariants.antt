use Rattle.std.proofs.Common.{◌≡◌, ℕ, List, ◌+◌, ◌*◌, ◌/◌, ◌%◌, ◌^◌, ◌<◌, length, get_or, All}
use Rattle.packed_words.specs.Counted.{AreAddedUpTo}
use Rattle.packed_words.proofs.counted.count_four.Given as goal

abbrev pub invariant-numbers : goal.invariant-numbers
invariant-numbers l = record {
  long : length l.sums ≡ length l.initial.sums;
  left : l.left ≡ l.word / 2 ^ (l.j * l.step);
  room : All (λ sum. sum < (l.from + l.j + 1) * 2 ^ 53) l.sums;
  counted :
      (cells : List ℕ) → length cells ≡ length l.numbers
      → ((i : ℕ) → i < 4 → get_or cells (l.from + i) 0 ≡ l.word / 2 ^ (i * l.step) % 2 ^ l.width)
      → AreAddedUpTo l.from cells l.numbers l.initial.sums
      → AreAddedUpTo (l.from + l.j) cells l.numbers l.sums;
}
