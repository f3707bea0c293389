use Rattle.std.proofs.Common.{length}
use Rattle.std.specs.List.{AllByRecursion}
use Rattle.storable_rounds.specs.StorableParts.{HasStorableBricks}
use Rattle.storable_rounds.proofs.rows.rows_fit.Given as goal

abbrev pub invariant-cubes : goal.invariant-cubes
invariant-cubes l = AllByRecursion HasStorableBricks l.left → AllByRecursion HasStorableBricks l.cubes

abbrev pub decreases-cubes : goal.decreases-cubes
decreases-cubes l = length l.left
