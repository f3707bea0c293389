use Rattle.std.proofs.Common.{◌≡◌}
use Rattle.std.specs.List.{zip}
use Rattle.agg_fold.specs.Tallies.{tally_difference}
use Rattle.agg_fold.proofs.Lists.{half}
use Rattle.agg_fold.proofs.tallies.take_all.Given as goal

abbrev pub invariant-items : goal.invariant-items
invariant-items l = l.tallies ≡ half (λ p. p.0) (λ p. tally_difference p.0 p.1) l.i (zip l.fn.tallies l.less)
