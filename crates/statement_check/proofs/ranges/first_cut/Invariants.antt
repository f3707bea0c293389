use Rattle.std.proofs.Common.{length}
use Rattle.statement_check.specs.Cuts.{AreSolid}
use Rattle.statement_check.proofs.Fronts.{AreAlignedBefore}
use Rattle.statement_check.proofs.ranges.first_cut.Given as goal

abbrev pub invariant-dims : goal.invariant-dims
invariant-dims l = record { front : AreAlignedBefore l.conds l.decl.dims l.left; solid : AreSolid l.left }

abbrev pub decreases-dims : goal.decreases-dims
decreases-dims l = length l.left
