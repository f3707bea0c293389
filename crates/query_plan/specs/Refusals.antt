-- The refusals by which it is told that a statement is not bound.
use Rattle.cube_journal.specs.declared.refusal.Refusal.{Refusal}
use Rattle.cube_journal.specs.declared.refusal.Refusal.TheVariants as refusal
use Rattle.cube_journal.specs.Refusals.{of_misfit}
use Rattle.query_plan.specs.declared.fault.BindFault.{BindFault}
use Rattle.query_plan.specs.declared.fault.BindFault.TheVariants.{UnknownCube, Unfit}

abbrev pub refusal_of : BindFault → Refusal
refusal_of (UnknownCube name) = refusal.UnknownCube name
refusal_of (Unfit misfit) = of_misfit misfit
