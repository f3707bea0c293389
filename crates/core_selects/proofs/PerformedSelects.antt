-- A SELECT of a cube that was found, and one of which none was.
use Rattle.std.proofs.Common.{◌≡◌, ℕ, true, false, List, [], refl}
use Rattle.std.proofs.lemmas.Bool.{false≢true}
use mathlib.Core.List.{IsPrefix}
use Rattle.core_selects.specs.ReadingCalls.{GoesOnByReading}
use Rattle.core_program.specs.CoreFits.{CoreEntry}
use Rattle.core_selects.proofs.Refusing.{GoesOnReading, plainly, reading-then}
use Rattle.core_selects.specs.ScanSteps.{IsMisfitIn}
use Rattle.cube_core.specs.declared.cell.CoreCell.{CoreCell}
use Rattle.cube_language.specs.Misfits.{HasMisfit}
use Rattle.cube_language.specs.declared.decl.Decl.{Decl}
use Rattle.cube_language.specs.declared.misfit.Misfit.{Misfit}
use Rattle.cube_language.specs.declared.statement.Statement.{Statement}
use Rattle.cube_language.specs.declared.statement.Statement.TheVariants.{Select}
use Rattle.cube_run.specs.StatementEntries.{is_change, is_select}
use Rattle.cube_values.specs.Faults.{IfFault}
use Rattle.cube_values.specs.declared.call_error.CallError.{CallError}
use Rattle.cube_values.specs.declared.call_error.CallError.TheVariants.{Fault, NoMemory}
use Rattle.linked_shards.specs.declared.cell.CoreShard.{CoreShard}
use Rattle.session_desk.specs.Executed.{OnStopped}
use Rattle.session_desk.specs.declared.answered.Answered.{Answered}
use Rattle.session_desk.specs.declared.answered.Answered.TheVariants.{Replied, Stopped}
use Rattle.shard_statements.specs.OverShards.{LeavesOverShards}
use Rattle.std.specs.Prelude.{Err}

pub no-change : (s : Statement) → is_select s ≡ true → is_change s ≡ false
no-change (Select items cube conds group having order limit) select = refl
no-change s select = absurd (false≢true select)

pub misfit-in : (T : Type 0) (d : Decl) (s : Statement) (error : CallError Misfit)
    → IfFault {T = T} {F = Misfit} (Err error) (HasMisfit d s) → IsMisfitIn d s error
misfit-in T d s (Fault misfit) has = has
misfit-in T d s NoMemory has = tt

pub whether-stopped : {P : Type 0} → (result : Answered) → P → OnStopped result P
whether-stopped (Replied said) p = tt
whether-stopped Stopped p = p

pub where-stopped : {P Q : Type 0} → (result : Answered) → (P → Q) → OnStopped result P → OnStopped result Q
where-stopped (Replied said) more p = tt
where-stopped Stopped more p = more p

-- Behind calls that leave nothing it goes on reading.
pub found-reads : (cells : List (CoreCell CoreShard)) (caller session : ℕ) (own mid now : List CoreEntry)
    → LeavesOverShards cells caller session own mid [] → IsPrefix mid now → GoesOnByReading cells caller session mid now
    → GoesOnReading cells caller session own now
found-reads cells caller session own mid now left more reads =
    reading-then cells caller session own mid now (plainly cells caller session own mid [] left)
    (record { more = more; reads = reads })
