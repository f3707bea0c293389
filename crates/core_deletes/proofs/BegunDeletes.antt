-- A counted DELETE may change rows, asks for the codes of its texts, and knows whether every shard has done it.
use Rattle.std.proofs.Common.{◌≡◌, ◌∙◌, ℕ, Bool, true, false, inr, List, [], length, replicate, None, refl, sym, ap, subst}
use Rattle.std.proofs.lemmas.List.{length-replicate}
use Rattle.std.specs.Bool.{OnFalse, OnTrue}
use Rattle.std.proofs.lemmas.Option.{none-some}
use mathlib.Core.List.{IsPrefix}
use Rattle.core_changes.specs.ChangesUnderWay.{MayChange}
use Rattle.core_deletes.specs.DeleteEnds.{is_done}
use Rattle.core_program.specs.CoreFits.{CoreEntry}
use Rattle.core_names.specs.CoreEncoders.{MayAskForCodes}
use Rattle.core_names.specs.KnownNumbers.{AreNumbersTold, TextsByDim}
use Rattle.core_states.specs.declared.session.CoreSession.{CoreSession}
use Rattle.cube_core.specs.declared.cell.CoreCell.{CoreCell}
use Rattle.cube_language.specs.declared.decl.Decl.{Decl}
use Rattle.cube_language.specs.declared.statement.Cond.{Cond}
use Rattle.cube_language.specs.declared.statement.Statement.{Statement}
use Rattle.cube_language.specs.declared.statement.Statement.TheVariants.{Delete}
use Rattle.cube_journal.specs.declared.refusal.Refusal.TheVariants as refusal
use Rattle.cube_run.specs.SessionStates.{Mode, Idle, Open, Aborted}
use Rattle.cube_run.specs.StatementEntries.{is_aborted}
use Rattle.cube_run.specs.StepOutcomes.{refused_by_mode}
use Rattle.cube_values.specs.declared.snapshot.Snapshot.{Snapshot}
use Rattle.dropped_regions.specs.DeleteBoxes.{IsToldOfPlace}
use Rattle.known_cubes.proofs.ToldCubes.{told-later}
use Rattle.known_cubes.specs.KnownCubes.{IsToldOfCube}
use Rattle.linked_shards.specs.CellShards.{CoreShardStands}
use Rattle.linked_shards.specs.declared.cell.CoreShard.{CoreShard}
use Rattle.query_plan.proofs.Plans.{delete_of}
use Rattle.query_plan.specs.Bindings.{DeletesRows}
use Rattle.session_snapshots.specs.KnownHolds.{HoldsWriter}
use Rattle.session_groups.specs.ShardGroups.{HoldsAfterWrite, HoldsOpenWriter}
use Rattle.session_groups.specs.declared.deletions.WriteEnd.{WriteEnd}
use Rattle.session_groups.specs.declared.deletions.WriteEnd.TheVariants as ends
use Rattle.shard_events.specs.ShardsInRuns.{FitsShard, ShardAnswerSays}

-- A session that may execute a DELETE has no aborted transaction.
active-for : (m : Mode) (cube : List ℕ) (conds : List Cond) → refused_by_mode m (Delete cube conds) ≡ None
    → is_aborted m ≡ false
active-for Idle cube conds may = refl
active-for (Open writer) cube conds may = refl
active-for (Aborted epoch) cube conds may = absurd (none-some refusal.TransactionAborted (sym may))

pub is-active : (m : Mode) (s : Statement) → DeletesRows s → refused_by_mode m s ≡ None → is_aborted m ≡ false
is-active m s deletes may =
    let delete = delete_of s deletes in
    active-for m delete.cube delete.conds
    (subst (λ (t : Statement). refused_by_mode m t ≡ None) delete.is may)

-- It was told of a cube still.
pub still-told : (own now : List CoreEntry) (place : ℕ) (d : Decl) → IsPrefix own now → IsToldOfPlace own place d
    → IsToldOfPlace now place d
still-told own now place d more told = (
  told.0,
  subst (λ (l : List CoreEntry). IsToldOfCube l told.0 place d) more.1 (told-later own more.0 told.0 place d told.1),
)

-- It knows no text of a cube yet.
pub may-ask : (cells : List (CoreCell CoreShard)) (caller shards place : ℕ) (old : CoreSession) (own : List CoreEntry)
    (d : Decl) (known : TextsByDim) → MayChange cells caller shards old own → IsToldOfPlace own place d
    → known ≡ replicate (length d.dims) []
    → AreNumbersTold own place d.dims (replicate (length d.dims) [])
    → MayAskForCodes FitsShard CoreShardStands ShardAnswerSays cells caller own old.number known place d
may-ask cells caller shards place old own d known may told is none = record {
  client = may.served.client;
  is_session = may.served.is_session;
  storable = may.served.storable;
  named = may.served.named;
  name = told.0;
  cube = told.1;
  long = ap (λ (texts : TextsByDim). length texts) is ∙ length-replicate (length d.dims) [];
  right = subst (λ (texts : TextsByDim). AreNumbersTold own place d.dims texts) (sym is) none;
}

-- ---- whether every shard has done it

pub on-true : {X : Type 0} (b : Bool) → X → OnTrue b X
on-true true x = x
on-true false x = tt

module _ (cells : List (CoreCell CoreShard)) (caller session : ℕ) (own : List CoreEntry) (writer : Snapshot) where
  abbrev Ready : Type 0
  Ready = HoldsWriter FitsShard CoreShardStands ShardAnswerSays cells caller session own writer

  pub ready-if-done : (end : WriteEnd) → HoldsAfterWrite cells caller session own writer end
      → OnTrue (is_done end) Ready
  ready-if-done ends.Done holds = holds
  ready-if-done ends.Refused holds = tt

  pub open-if-not : (end : WriteEnd) → HoldsAfterWrite cells caller session own writer end
      → OnFalse (is_done end) (HoldsOpenWriter cells caller session own writer)
  open-if-not ends.Done holds = tt
  open-if-not ends.Refused holds = inr holds
