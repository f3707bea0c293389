use Rattle.std.proofs.Common.{ℕ, ◌<◌, pos, get_or, FitsSigned, w64}
use Rattle.brick_store.proofs.scan.all_fit.Given as goal

abbrev pub invariant-numbers : goal.invariant-numbers
invariant-numbers l = (k : ℕ) → k < l.i → FitsSigned w64 (get_or l.numbers k (pos 0))
