use Rattle.std.proofs.Common.{◌≡◌, ◌*◌, ◌^◌, take, pos, neg_ℤ, ◌≤ℤ◌}
use Rattle.cube_values.specs.Answer.{total}
use Rattle.plain_history.proofs.numbers.total.Given as goal

abbrev pub invariant-loop-n : goal.invariant-loop-n
invariant-loop-n l = record {
  so_far : l.sum ≡ total (take l.n-index l.numbers);
  low : neg_ℤ (pos (2 ^ 63 * l.n-index)) ≤ℤ l.sum;
  high : l.sum ≤ℤ pos (2 ^ 63 * l.n-index);
}
