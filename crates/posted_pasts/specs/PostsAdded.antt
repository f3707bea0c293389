-- What calls of a session add to the operations of its transactions.
-- Source: AOSI (ICDE 2018), the operations of a transaction.
use Rattle.std.specs.Prelude.{◌≡◌, ◌≢◌, ◌⊎◌, ℕ, List, [], ◌∷◌, ◌++◌}
use Rattle.cube_core.specs.Links.{AreEventsOf}
use Rattle.cube_core.specs.BoardCells.{IsEntryEvent}
use Rattle.core_program.specs.Knowing.{IsLaterRun}
use Rattle.core_events.specs.Clients.{calls_of}
use Rattle.core_events.specs.Events.{Opening, ClientCall, CoreEvent, Post}
use Rattle.core_events.specs.Jobs.{CoreJob, Append, DropBox, JobOutcome}
use Rattle.core_events.specs.Serial.{CubeOperation}
use Rattle.core_events.specs.ShardView.{ShardView}
use Rattle.core_program.specs.CoreFits.{CoreEntry}
use Rattle.core_serial.specs.OwnOperations.{operations_by_calls}
use Rattle.cube_core.specs.declared.cell.CoreCell.{CoreCell}
use Rattle.cube_core.specs.declared.shard.ShardAnswer.{ShardAnswer}
use Rattle.cube_core.specs.declared.shard.ShardCall.{ShardCall}
use Rattle.cube_values.specs.declared.row.CodedRow.{CodedRow}

-- A call that posts neither rows nor a deletion.
abbrev pub PostsNoChange : ClientCall → Type 0
PostsNoChange (Post mail (Append cube epoch rows)) = ⊥
PostsNoChange (Post mail (DropBox cube epoch box)) = ⊥
PostsNoChange call = Unit {0}

-- A call that posts no change but at an epoch,
abbrev pub PostsAtEpoch : ℕ → ClientCall → Type 0
PostsAtEpoch epoch (Post mail (Append cube at rows)) = at ≡ epoch
PostsAtEpoch epoch (Post mail (DropBox cube at box)) = at ≡ epoch
PostsAtEpoch epoch call = Unit {0}

-- or none but rows of a cube at an epoch.
abbrev pub PostsRowsAt : ℕ → ℕ → ClientCall → Type 0
PostsRowsAt cube epoch (Post mail (Append other at rows)) = (other ≡ cube) × (at ≡ epoch)
PostsRowsAt cube epoch (Post mail (DropBox other at box)) = ⊥
PostsRowsAt cube epoch call = Unit {0}

-- The batches that calls post.
abbrev pub batches_among : List ClientCall → List (List CodedRow)
batches_among [] = []
batches_among (Post mail (Append cube epoch rows) ∷ calls) = rows ∷ batches_among calls
batches_among (call ∷ calls) = batches_among calls

-- From the calls before to those after there are no more operations,
abbrev pub AddsNoOperation : ℕ → Opening → List ClientCall → List ClientCall → Type 0
AddsNoOperation session o before after =
    (cube epoch : ℕ)
    → operations_by_calls o session cube after epoch ≡ operations_by_calls o session cube before epoch

-- or none but at an epoch,
abbrev pub AddsAtEpoch : ℕ → ℕ → Opening → List ClientCall → List ClientCall → Type 0
AddsAtEpoch epoch session o before after =
    (cube other : ℕ) → other ≢ epoch
    → operations_by_calls o session cube after other ≡ operations_by_calls o session cube before other

-- or just these of a cube at an epoch.
pub record AddsOperations (cube epoch : ℕ) (added : List CubeOperation) (session : ℕ) (o : Opening)
    (before after : List ClientCall) : Type 0 where
  pub here : operations_by_calls o session cube after epoch
      ≡ added ++ operations_by_calls o session cube before epoch
  pub elsewhere : (c e : ℕ) → (c ≢ cube) ⊎ (e ≢ epoch)
      → operations_by_calls o session c after e ≡ operations_by_calls o session c before e

module _ {S : Type 0} (fits : Opening → ℕ → ShardCall → Type 0) (stands : Opening → ℕ → ℕ → S → ShardView → Type 0)
    (says : CoreJob → ShardAnswer → JobOutcome → Type 0) where
  -- The events of the calls come after those of earlier calls, and this holds from the session's calls among these to
  -- those among all.
  pub record GoesOnWith (Adds : ℕ → Opening → List ClientCall → List ClientCall → Type 0) (o : Opening) (session : ℕ)
      (own : List CoreEntry) (es : List CoreEvent) : Type 0 where
    pub before : List CoreEvent
    pub events : AreEventsOf (IsEntryEvent fits stands says o) own before
    pub adds : Adds session o (calls_of session before) (calls_of session es)

  -- So it is in each run in which its own calls begin with these.
  abbrev pub LearnsThat : (ℕ → Opening → List ClientCall → List ClientCall → Type 0) → List (CoreCell S) → ℕ → ℕ
      → List CoreEntry → List CoreEntry → Type 0
  LearnsThat Adds cells caller session own now =
      (o : Opening) (log : List CoreEntry) (run es : List CoreEvent)
      → IsLaterRun fits stands says cells o caller now log run
      → AreEventsOf (IsEntryEvent fits stands says o) now es → GoesOnWith Adds o session own es
