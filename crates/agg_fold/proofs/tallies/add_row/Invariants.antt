use Rattle.std.proofs.Common.{◌≡◌, All, take}
use Rattle.std.specs.List.{zip}
use Rattle.agg_fold.specs.Tallies.{Fits, tally_with_row}
use Rattle.agg_fold.proofs.Lists.{half}
use Rattle.agg_fold.proofs.tallies.add_row.Given as goal

abbrev pub invariant-items : goal.invariant-items
invariant-items l =
    All (Fits l.metrics) (take l.i l.items)
    × (l.tallies ≡ half (λ p. p.1) (λ p. tally_with_row l.metrics p.0 p.1) l.i (zip l.items l.fn.tallies))
