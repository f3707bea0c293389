use Rattle.std.proofs.Common.{length}
use Rattle.std.specs.List.{AllByRecursion}
use Rattle.storable_rounds.specs.StorableParts.{HasTexts}
use Rattle.storable_rounds.proofs.names.names_fit.Given as goal

abbrev pub invariant-cubes : goal.invariant-cubes
invariant-cubes l = AllByRecursion HasTexts l.left → AllByRecursion HasTexts l.cubes

abbrev pub decreases-cubes : goal.decreases-cubes
decreases-cubes l = length l.left
