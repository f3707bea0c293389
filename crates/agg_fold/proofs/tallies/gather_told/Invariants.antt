use Rattle.std.proofs.Common.{◌≡◌, ◌++◌, drop}
use Rattle.agg_fold.specs.Tallies.{told_tallies}
use Rattle.agg_fold.proofs.tallies.gather_told.Given as goal

abbrev pub invariant-items : goal.invariant-items
invariant-items l =
    l.tallies.items ++ told_tallies (drop l.i l.items) (drop l.i l.sums) (drop l.i l.least) (drop l.i l.greatest)
    ≡ told_tallies l.items l.sums l.least l.greatest
