use Rattle.std.proofs.Common.{◌≡◌, length}
use Rattle.cube_values.specs.Values.{values_cmp}
use Rattle.agg_fold.proofs.finish.compare.Given as goal

abbrev pub invariant-values : goal.invariant-values
invariant-values l = values_cmp l.a_left l.b_left ≡ values_cmp l.a l.b

abbrev pub decreases-values : goal.decreases-values
decreases-values l = length l.a_left
