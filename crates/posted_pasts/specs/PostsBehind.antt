-- What a session of the core has posted stands for what the statements behind it have done, in each run that goes on
-- from there.
-- Source: AOSI (ICDE 2018), the operations of a transaction. A promise of what was done speaks of every run that begins
-- with it, as with prophecy variables (Abadi and Lamport, 1991).
use Rattle.std.specs.Prelude.{◌≡◌, ℕ, ◌==◌, Bool, false, List, Some, slice_get}
use Rattle.std.specs.List.{list_any}
use Rattle.condition_spans.specs.Codes.{lists_at}
use Rattle.core_agreements.specs.PostsForOperations.{PostsStandFor}
use Rattle.cube_core.specs.Links.{AreEventsOf}
use Rattle.cube_core.specs.BoardCells.{IsEntryEvent}
use Rattle.core_program.specs.Knowing.{IsLaterRun}
use Rattle.core_events.specs.Clients.{calls_of}
use Rattle.core_events.specs.Events.{Opening, ClientCall, CoreEvent}
use Rattle.core_events.specs.Jobs.{CoreJob, JobOutcome}
use Rattle.core_events.specs.ShardView.{ShardView}
use Rattle.core_states.specs.CorePasts.{CorePast}
use Rattle.core_states.specs.RunsFrom.{IsRunFrom, RunClaim}
use Rattle.core_program.specs.CoreFits.{CoreEntry}
use Rattle.core_records.specs.CoreRecords.{RunScripts, record_of}
use Rattle.core_serial.specs.OwnOperations.{operations_by_calls}
use Rattle.cube_core.specs.declared.cell.CoreCell.{CoreCell}
use Rattle.cube_core.specs.declared.shard.ShardAnswer.{ShardAnswer}
use Rattle.cube_core.specs.declared.shard.ShardCall.{ShardCall}
use Rattle.cube_journal.specs.declared.journal_entry.JournalEntry.{JournalEntry}
use Rattle.cube_journal.specs.declared.journal_entry.JournalEntry.TheVariants as entry
use Rattle.cube_language.specs.declared.decl.Decl.{Decl}
use Rattle.cube_run.specs.RunRecords.{RunRecord, catalog_of}
use Rattle.cube_run.specs.RunTransactions.{operations_at, session_operations}
use Rattle.cube_run.specs.SessionStates.{SessionState, fresh_session}
use Rattle.cube_run.specs.SessionSteps.{last_state, steps_of}

-- An entry aborts the transaction of an epoch.
abbrev pub is_abort_of : ℕ → JournalEntry → Bool
is_abort_of epoch (entry.Aborted session statement aborted cause) = aborted == epoch
is_abort_of epoch _ = false

-- Of each epoch that no entry behind aborts and each cube on record, what these calls posted stands for the operations
-- that the statements behind have done. Nobody sees an aborted transaction, and what a statement that failed in it had
-- posted stands for nothing. An epoch at which nothing was done has neither posts nor operations.
abbrev pub PostsStand : Opening → RunRecord → ℕ → CorePast → List ClientCall → Type 0
PostsStand o run session past calls =
    (epoch cube : ℕ) (d : Decl) → list_any (is_abort_of epoch) past.entries ≡ false
    → slice_get (catalog_of run).cubes cube ≡ Some d
    → PostsStandFor d (lists_at run.names cube) (operations_by_calls o session cube calls epoch)
    (operations_at epoch (session_operations run session past.sentences))

module _ {S : Type 0} (fits : Opening → ℕ → ShardCall → Type 0) (stands : Opening → ℕ → ℕ → S → ShardView → Type 0)
    (says : CoreJob → ShardAnswer → JobOutcome → Type 0) (cells : List (CoreCell S)) (caller session : ℕ) where
  -- In each run that goes on from what is behind the session, and of which this is asked besides, the record is such.
  abbrev pub InEachRun : RunClaim → CorePast → (RunRecord → Type 0) → Type 0
  InEachRun besides past Is = (o : Opening) (given : RunScripts) (events : List CoreEvent)
      → IsRunFrom fits stands says cells caller session past o given events → besides o given events
      → Is (record_of o given events)

  -- In such a run the session's own calls begin with these, which are those events.
  pub record IsRunWithCalls (besides : RunClaim) (past : CorePast) (own : List CoreEntry) (o : Opening)
      (given : RunScripts) (events es : List CoreEvent) : Type 0 where
    pub from : IsRunFrom fits stands says cells caller session past o given events
    pub also : besides o given events
    pub log : List CoreEntry
    pub later : IsLaterRun fits stands says cells o caller own log events
    pub calls : AreEventsOf (IsEntryEvent fits stands says o) own es

  -- So it is in each: the statements behind have left the session in this state, and the posts by its calls stand for
  -- what they have done.
  pub record PostsStandBehind (besides : RunClaim) (past : CorePast) (own : List CoreEntry) (state : SessionState)
      : Type 0 where
    pub becomes : InEachRun besides past
        (λ run. last_state fresh_session (steps_of run session past.sentences) ≡ state)
    pub posts : (o : Opening) (given : RunScripts) (events es : List CoreEvent)
        → IsRunWithCalls besides past own o given events es
        → PostsStand o (record_of o given events) session past (calls_of session es)
