use Rattle.std.proofs.Common.{length}
use Rattle.std.specs.List.{AllByRecursion}
use Rattle.storable_rounds.specs.StorableParts.{HasStorableRows}
use Rattle.storable_rounds.proofs.rows.bricks_fit.Given as goal

abbrev pub invariant-bricks : goal.invariant-bricks
invariant-bricks l = AllByRecursion HasStorableRows l.left → AllByRecursion HasStorableRows l.bricks

abbrev pub decreases-bricks : goal.decreases-bricks
decreases-bricks l = length l.left
