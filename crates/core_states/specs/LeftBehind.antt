-- What some calls of a session leave behind them, in each run in which its calls begin so.
-- Source: this project's own; AOSI (ICDE 2018) for the operations of a transaction.
use Rattle.std.specs.Prelude.{◌≡◌, ℕ, List, ◌++◌}
use Rattle.std.specs.List.{AllByRecursion}
use mathlib.Core.List.{IsPrefix}
use Rattle.aosi_desk.specs.declared.cube.CubeFound.TheVariants.{Unknown}
use Rattle.cube_core.specs.Links.{AreEventsOf}
use Rattle.cube_core.specs.BoardCells.{IsEntryEvent}
use Rattle.core_program.specs.Knowing.{IsLaterRun}
use Rattle.core_events.specs.Clients.{calls_of}
use Rattle.core_events.specs.Events.{Opening, OpenRead, CloseRead, CreateCube, FindCube, Encode, ClientCall, OnDesk, OnNames, Post, CoreEvent}
use Rattle.core_events.specs.Jobs.{CoreJob, Append, DropBox, JobOutcome}
use Rattle.core_events.specs.ShardView.{ShardView}
use Rattle.core_states.specs.OwnCalls.{OwnCallsLeave}
use Rattle.core_program.specs.CoreFits.{CoreEntry}
use Rattle.cube_core.specs.declared.cell.CoreCell.{CoreCell}
use Rattle.cube_core.specs.declared.shard.ShardAnswer.{ShardAnswer}
use Rattle.cube_core.specs.declared.shard.ShardCall.{ShardCall}
use Rattle.cube_journal.specs.declared.journal_entry.JournalEntry.{JournalEntry}

-- A call that neither opens nor closes a reader.
abbrev pub LeavesReaders : ClientCall → Type 0
LeavesReaders (OnDesk (OpenRead holder statement epoch)) = ⊥
LeavesReaders (OnDesk (CloseRead holder statement)) = ⊥
LeavesReaders call = Unit {0}

-- A call that asks for the code of no text.
abbrev pub AsksForNone : ClientCall → Type 0
AsksForNone (OnNames (Encode cube dim name code)) = ⊥
AsksForNone call = Unit {0}

-- A call that posts neither rows nor a deletion, by which no cube is made or missed, no text is given a code, and no
-- reader opened or closed.
abbrev pub IsPlainCall : ClientCall → Type 0
IsPlainCall (OnDesk (CreateCube statement decl answer)) = ⊥
IsPlainCall (OnDesk (FindCube statement name Unknown)) = ⊥
IsPlainCall (OnDesk (OpenRead holder statement epoch)) = ⊥
IsPlainCall (OnDesk (CloseRead holder statement)) = ⊥
IsPlainCall (OnNames (Encode cube dim name code)) = ⊥
IsPlainCall (Post mail (Append cube epoch rows)) = ⊥
IsPlainCall (Post mail (DropBox cube epoch box)) = ⊥
IsPlainCall call = Unit {0}

module _ {S : Type 0} (fits : Opening → ℕ → ShardCall → Type 0) (stands : Opening → ℕ → ℕ → S → ShardView → Type 0)
    (says : CoreJob → ShardAnswer → JobOutcome → Type 0) where
  -- The events of the calls are those of earlier calls, with more calls of the session, each of which is such.
  pub record AddsCalls (Is : ClientCall → Type 0) (o : Opening) (session : ℕ) (own : List CoreEntry)
      (es : List CoreEvent) : Type 0 where
    pub before : List CoreEvent
    pub events : AreEventsOf (IsEntryEvent fits stands says o) own before
    pub added : List ClientCall
    pub calls : calls_of session es ≡ added ++ calls_of session before
    pub each : AllByRecursion Is added

  module _ (cells : List (CoreCell S)) (caller session : ℕ) where
    -- From these calls to those they have left these entries besides, and no more.
    abbrev pub AddsEntries : List CoreEntry → List CoreEntry → List JournalEntry → Type 0
    AddsEntries own now added = (entries : List JournalEntry)
        → OwnCallsLeave fits stands says cells caller session own entries
        → OwnCallsLeave fits stands says cells caller session now (entries ++ added)

    -- From these calls to those each is such.
    abbrev pub GoOnByCalls : (ClientCall → Type 0) → List CoreEntry → List CoreEntry → Type 0
    GoOnByCalls Is own now =
        (o : Opening) (log : List CoreEntry) (run es : List CoreEvent)
        → IsLaterRun fits stands says cells o caller now log run
        → AreEventsOf (IsEntryEvent fits stands says o) now es → AddsCalls Is o session own es

    -- From these calls to those there are plain ones, and they leave these entries.
    pub record LeavesBehind (own now : List CoreEntry) (added : List JournalEntry) : Type 0 where
      pub more : IsPrefix own now
      pub entries : AddsEntries own now added
      pub plain : GoOnByCalls IsPlainCall own now
