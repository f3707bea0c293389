use Rattle.std.proofs.Common.{ℕ, ◌^◌, ◌≤◌}
use Rattle.brick_columns.proofs.columns.width_of.Given as goal

abbrev pub invariant-bits : goal.invariant-bits
invariant-bits l = (n : ℕ) → l.range ≤ 2 ^ n → l.width ≤ n
