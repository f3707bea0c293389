-- Why a statement is not known to fit its cube.
use Rattle.core_watches.specs.BoundQueries.{IsWhyUnfit}
use Rattle.cube_language.specs.Misfits.{HasMisfit}
use Rattle.cube_language.specs.declared.decl.Decl.{Decl}
use Rattle.cube_language.specs.declared.misfit.Misfit.{Misfit}
use Rattle.cube_language.specs.declared.statement.Statement.{Statement}
use Rattle.cube_values.specs.Faults.{IfFault}
use Rattle.cube_values.specs.declared.call_error.CallError.{CallError}
use Rattle.cube_values.specs.declared.call_error.CallError.TheVariants.{Fault, NoMemory}
use Rattle.std.specs.Prelude.{Err}

pub why-unfit : (T : Type 0) (d : Decl) (s : Statement) (error : CallError Misfit)
    → IfFault {T = T} {F = Misfit} (Err error) (HasMisfit d s) → IsWhyUnfit d s error
why-unfit T d s (Fault misfit) has = has
why-unfit T d s NoMemory has = tt
