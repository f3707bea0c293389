use Rattle.std.proofs.Common.{◌≡◌, ℕ, List, ◌+◌, ◌-◌, ◌*◌, ◌^◌, ◌<◌, ◌≤◌, length, All}
use Rattle.packed_words.specs.Counted.{AreAddedUpTo, StandAt}
use Rattle.packed_words.proofs.counted.count_fours.Given as goal

abbrev pub invariant-fours : goal.invariant-fours
invariant-fours l = record {
  done : l.done ≤ length l.numbers;
  long : length l.sums ≡ length l.initial.sums;
  room : All (λ sum. sum < (l.done + 1) * 2 ^ 53) l.sums;
  counted :
      (cells : List ℕ) → length cells ≡ length l.numbers → StandAt l.words l.place l.step l.width cells
      → AreAddedUpTo l.done cells l.numbers l.sums;
}

abbrev pub decreases-fours : goal.decreases-fours
decreases-fours l = length l.numbers - l.done
