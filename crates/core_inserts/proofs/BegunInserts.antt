-- A counted INSERT may change rows, has rows that can be stored, and knows whether every shard has them.
use Rattle.std.proofs.Common.{◌≡◌, ◌⊎◌, ℕ, false, inl, inr, List, Option, None, Some, IfNone, IfSome, refl, sym, subst}
use Rattle.std.specs.Prelude.{Err}
use Rattle.std.proofs.lemmas.Option.{none-some}
use mathlib.Core.List.{IsPrefix}
use Rattle.core_inserts.proofs.StepsOfInserts.{insert-of}
use Rattle.core_inserts.specs.InsertEnds.{InsertsRows, IsInsertText, IsRefusalOn, cause_of_put, misfit_refusal, without_memory, unfit}
use Rattle.core_names.specs.AskedNames.{HasAskedFor}
use Rattle.core_program.specs.CoreFits.{CoreEntry}
use Rattle.cube_core.specs.declared.cell.CoreCell.{CoreCell}
use Rattle.cube_journal.specs.declared.refusal.Refusal.TheVariants as refusal
use Rattle.cube_language.specs.Misfits.{FitsCube, HasMisfit}
use Rattle.cube_language.specs.RowFaults.{first_bad_row}
use Rattle.cube_language.specs.declared.decl.Decl.{Decl}
use Rattle.cube_language.specs.declared.misfit.Misfit.{Misfit}
use Rattle.cube_language.specs.declared.misfit.Misfit.TheVariants.{BadRow}
use Rattle.cube_language.specs.declared.statement.Statement.{Statement}
use Rattle.cube_language.specs.declared.statement.Statement.TheVariants.{Select, Insert, Load, Delete, Begin, Commit, Rollback, Flush, Purge, ShowEpochs, CreateCube, Watch, ShowWatch}
use Rattle.cube_run.specs.SessionStates.{Mode, Idle, Open, Aborted}
use Rattle.cube_run.specs.StatementEntries.{is_aborted}
use Rattle.cube_run.specs.StepOutcomes.{refused_by_mode}
use Rattle.cube_values.specs.Faults.{IfFault}
use Rattle.cube_values.specs.declared.call_error.CallError.{CallError}
use Rattle.cube_values.specs.declared.call_error.CallError.TheVariants.{Fault, NoMemory}
use Rattle.cube_values.specs.declared.snapshot.Snapshot.{Snapshot}
use Rattle.cube_values.specs.declared.value.Value.{Value}
use Rattle.inserted_rows.specs.RowsInTheEnd.{IsToldOfCubeAt}
use Rattle.known_cubes.proofs.ToldCubes.{told-later}
use Rattle.known_cubes.specs.KnownCubes.{IsToldOfCube}
use Rattle.session_snapshots.specs.KnownHolds.{HoldsWriter}
use Rattle.linked_shards.specs.CellShards.{CoreShardStands}
use Rattle.linked_shards.specs.declared.cell.CoreShard.{CoreShard}
use Rattle.query_plan.proofs.FitConditions.{nothing}
use Rattle.row_encoding.specs.CodedInserts.{HaveTextIn}
use Rattle.session_batches.specs.PutRows.{HoldsAfterPut}
use Rattle.session_batches.specs.declared.answers.PutEnd.{PutEnd}
use Rattle.session_batches.specs.declared.answers.PutEnd.TheVariants as put
use Rattle.session_groups.specs.ShardGroups.{HoldsOpenWriter}
use Rattle.shard_events.specs.ShardsInRuns.{FitsShard, ShardAnswerSays}
use Rattle.statement_check.specs.OwnParts.{inserted_rows}

-- A session that may execute an INSERT has no aborted transaction.
active-for : (m : Mode) (cube : List ℕ) (rows : List (List Value)) → refused_by_mode m (Insert cube rows) ≡ None
    → is_aborted m ≡ false
active-for Idle cube rows may = refl
active-for (Open writer) cube rows may = refl
active-for (Aborted epoch) cube rows may = absurd (none-some refusal.TransactionAborted (sym may))

pub is-active : (m : Mode) (s : Statement) → InsertsRows s → refused_by_mode m s ≡ None → is_aborted m ≡ false
is-active m s inserts may =
    let insert = insert-of s inserts in
    active-for m insert.cube insert.rows
    (subst (λ (t : Statement). refused_by_mode m t ≡ None) insert.is may)

-- It was told of a cube still.
pub still-told : (own now : List CoreEntry) (place : ℕ) (d : Decl) → IsPrefix own now → IsToldOfCubeAt own place d
    → IsToldOfCubeAt now place d
still-told own now place d more told = (
  told.0,
  subst (λ (l : List CoreEntry). IsToldOfCube l told.0 place d) more.1 (told-later own more.0 told.0 place d told.1),
)

-- The texts for which it has asked are those of its rows.
pub its-texts : (own mid : List CoreEntry) (place : ℕ) (d : Decl) (s : Statement) {rows : List (List Value)}
    → FitsCube d s → rows ≡ inserted_rows s
    → ((cube dim : ℕ) (text : List ℕ) → HasAskedFor mid cube dim text
    → HasAskedFor own cube dim text ⊎ ((cube ≡ place) × HaveTextIn rows dim text))
    → (cube dim : ℕ) (text : List ℕ) → HasAskedFor mid cube dim text
    → HasAskedFor own cube dim text ⊎ IsInsertText place d s cube dim text
its-texts own mid place d s fits are asked cube dim text has =
    elim (asked cube dim text has) [
      | inl old ↦ inl old
      | inr is ↦
          inr (record {
            here = is.0;
            fits_it = fits;
            has = subst (λ (rows : List (List Value)). HaveTextIn rows dim text) are is.1;
          })
    ]

-- An INSERT that fails its tests is refused so.
pub refused-unfit : (T : Type 0) (cells : List (CoreCell CoreShard)) (caller : ℕ) (now : List CoreEntry) (place : ℕ)
    (d : Decl) (s : Statement) (error : CallError Misfit) → IfFault {T = T} {F = Misfit} (Err error) (HasMisfit d s)
    → IsRefusalOn cells caller now place d s (misfit_refusal error)
refused-unfit T cells caller now place d s (Fault misfit) is = unfit misfit is
refused-unfit T cells caller now place d s NoMemory is = without_memory

-- The rows of an INSERT that fits its cube can be stored.
pub fits-rows : (d : Decl) (s : Statement) → FitsCube d s → first_bad_row d (inserted_rows s) ≡ None
fits-rows d (Insert cube rows) fits = nothing (first_bad_row d rows) (λ found is. fits (BadRow found.0 found.1) is)
fits-rows d (Select items cube conds group having order limit) fits = refl
fits-rows d (Load cube path reject) fits = refl
fits-rows d (Delete cube conds) fits = refl
fits-rows d Begin fits = refl
fits-rows d Commit fits = refl
fits-rows d Rollback fits = refl
fits-rows d Flush fits = refl
fits-rows d Purge fits = refl
fits-rows d ShowEpochs fits = refl
fits-rows d (CreateCube decl) fits = refl
fits-rows d (Watch items cube conds group) fits = refl
fits-rows d ShowWatch fits = refl

-- ---- whether every shard has its rows

module _ (cells : List (CoreCell CoreShard)) (caller session : ℕ) (own : List CoreEntry) (writer : Snapshot) where
  abbrev Ready : Type 0
  Ready = HoldsWriter FitsShard CoreShardStands ShardAnswerSays cells caller session own writer

  pub ready-if-put : (end : PutEnd) → HoldsAfterPut cells caller session own writer end
      → IfNone (cause_of_put end) Ready
  ready-if-put put.Done holds = holds
  ready-if-put (put.ShardFull shard rows) holds = tt
  ready-if-put (put.OutOfMemory shard) holds = tt

  pub open-if-not : (end : PutEnd) → HoldsAfterPut cells caller session own writer end
      → IfSome (cause_of_put end) (λ cause. HoldsOpenWriter cells caller session own writer)
  open-if-not put.Done holds = tt
  open-if-not (put.ShardFull shard rows) holds = inr holds
  open-if-not (put.OutOfMemory shard) holds = inr holds

pub if-none : {X : Type 0} {A : Type 0} (o : Option A) → X → IfNone o X
if-none None x = x
if-none (Some a) x = tt
