use Rattle.std.proofs.Common.{◌≡◌, take, All}
use Rattle.agg_fold.proofs.finish.run_len.Given as goal

abbrev pub invariant-named : goal.invariant-named
invariant-named l = (l.n ≡ l.group-index) × All (λ m. m.values ≡ l.values) (take l.group-index l.named)
