use Rattle.std.proofs.Common.{◌≡◌, ◌++◌, length}
use Rattle.query_plan.proofs.rows.copy_all.Given as goal

abbrev pub invariant-values : goal.invariant-values
invariant-values l = l.copied.items ++ l.left ≡ l.values

abbrev pub decreases-values : goal.decreases-values
decreases-values l = length l.left
