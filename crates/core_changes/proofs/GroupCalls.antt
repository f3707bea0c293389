-- The calls of a group of jobs leave no entry, and speak of no cube.
use Rattle.std.proofs.Common.{◌≡◌, ◌∙◌, ℕ, List, [], ◌∷◌, ◌++◌, refl, sym, ap, subst, append-nil}
use Rattle.std.specs.List.{AllByRecursion}
use mathlib.Core.List.{IsPrefix}
use Rattle.cube_core.specs.Links.{AreEventsOf}
use Rattle.core_events.specs.Clients.{calls_of}
use Rattle.core_events.specs.Events.{Opening, ClientCall, CoreEvent, OnDesk, OnNames, Post, Fetch, CloseMail, NoChange}
use Rattle.core_states.specs.OwnCalls.{OwnCallsLeave}
use Rattle.core_program.proofs.KnownCalls.{earlier-run}
use Rattle.cube_core.specs.BoardCells.{IsEntryEvent}
use Rattle.core_program.specs.CoreFits.{CoreEntry}
use Rattle.core_program.specs.Knowing.{IsLaterRun}
use Rattle.core_records.specs.OwnEntries.{entries_by_calls}
use Rattle.core_states.specs.LeftBehind.{AsksForNone}
use Rattle.cube_core.specs.declared.cell.CoreCell.{CoreCell}
use Rattle.cube_core.specs.declared.shard.ShardCall.{ShardCall}
use Rattle.cube_journal.specs.declared.journal_entry.JournalEntry.{JournalEntry}
use Rattle.cube_language.specs.declared.statement.Statement.{Statement}
use Rattle.cube_values.specs.declared.row.CodedRow.{CodedRow}
use Rattle.cube_values.specs.declared.shape.CubeShape.{CubeShape}
use Rattle.job_groups.specs.AskedEach.{IsGroupCall}
use Rattle.linked_shards.specs.CellShards.{CoreShardStands}
use Rattle.shard_events.specs.ShardsInRuns.{FitsShard, ShardAnswerSays}
use Rattle.linked_shards.specs.declared.cell.CoreShard.{CoreShard}
use Rattle.core_changes.specs.CallsOfChanges.{IsCallOfChange, LeavesByJobs, LeavesForChange}
use Rattle.session_batches.specs.PutRows.{LearnsOfRows}
use Rattle.session_batches.specs.declared.answers.PutEnd.{PutEnd}
use Rattle.session_groups.specs.ShardGroups.{HasAskedAll}

no-entries : (o : Opening) (a : ℕ) (added past : List ClientCall) → AllByRecursion IsGroupCall added
    → entries_by_calls o a (added ++ past) ≡ entries_by_calls o a past
no-entries o a [] past only = refl
no-entries o a (Post number job ∷ added) past only = no-entries o a added past only.1
no-entries o a (Fetch number outcome ∷ added) past only = no-entries o a added past only.1
no-entries o a (NoChange ∷ added) past only = no-entries o a added past only.1
no-entries o a (OnDesk c ∷ added) past only = absurd only.0
no-entries o a (OnNames c ∷ added) past only = absurd only.0
no-entries o a (CloseMail number ∷ added) past only = absurd only.0

all-may : (number : ℕ) (s : Statement) (added : List ClientCall) → AllByRecursion IsGroupCall added
    → AllByRecursion (IsCallOfChange number s) added
all-may number s [] only = tt
all-may number s (Post mail job ∷ added) only = (record { speaks = tt; readers = tt }, all-may number s added only.1)
all-may number s (Fetch mail outcome ∷ added) only =
    (record { speaks = tt; readers = tt }, all-may number s added only.1)
all-may number s (NoChange ∷ added) only = (record { speaks = tt; readers = tt }, all-may number s added only.1)
all-may number s (OnDesk c ∷ added) only = absurd only.0
all-may number s (OnNames c ∷ added) only = absurd only.0
all-may number s (CloseMail mail ∷ added) only = absurd only.0

all-ask-none : (added : List ClientCall) → AllByRecursion IsGroupCall added → AllByRecursion AsksForNone added
all-ask-none [] only = tt
all-ask-none (Post mail job ∷ added) only = (tt, all-ask-none added only.1)
all-ask-none (Fetch mail outcome ∷ added) only = (tt, all-ask-none added only.1)
all-ask-none (NoChange ∷ added) only = (tt, all-ask-none added only.1)
all-ask-none (OnDesk c ∷ added) only = absurd only.0
all-ask-none (OnNames c ∷ added) only = absurd only.0
all-ask-none (CloseMail mail ∷ added) only = absurd only.0

-- In a run a session's calls go on by those of a group alone.
pub record GoesOnByGroup (o : Opening) (session : ℕ) (own : List CoreEntry) (es : List CoreEvent) : Type 0 where
  pub before : List CoreEvent
  pub events : AreEventsOf (IsEntryEvent FitsShard CoreShardStands ShardAnswerSays o) own before
  pub added : List ClientCall
  pub past : calls_of session es ≡ added ++ calls_of session before
  pub only : AllByRecursion IsGroupCall added

module _ (cells : List (CoreCell CoreShard)) (caller session number : ℕ) (s : Statement) (own now : List CoreEntry)
  where
    abbrev Later : Opening → List CoreEntry → List CoreEntry → List CoreEvent → Type 0
    Later o mine log run = IsLaterRun FitsShard CoreShardStands ShardAnswerSays cells o caller mine log run

    by-group : IsPrefix own now
        → ((o : Opening) (log : List CoreEntry) (run es : List CoreEvent) → Later o now log run
        → AreEventsOf (IsEntryEvent FitsShard CoreShardStands ShardAnswerSays o) now es → GoesOnByGroup o session own es)
        → LeavesForChange cells caller session number s own now []
    by-group more learns = record {
      more = more;
      entries = λ entries leave.
          subst (λ (es : List JournalEntry). OwnCallsLeave FitsShard CoreShardStands ShardAnswerSays cells caller session
          now es) (sym (append-nil entries))
          (λ o log run es later are.
          let h : GoesOnByGroup o session own es = learns o log run es later are in
          let earlier : Later o own log run =
          earlier-run FitsShard CoreShardStands ShardAnswerSays cells o caller own more.0 log run
          (subst (λ (l : List CoreEntry). Later o l log run) (sym more.1) later)
          in
          ap (entries_by_calls o session) h.past
          ∙ no-entries o session h.added (calls_of session h.before) h.only
          ∙ leave o log run h.before earlier h.events);
      calls = λ o log run es later are.
          let h : GoesOnByGroup o session own es = learns o log run es later are in
          record {
            before = h.before;
            events = h.events;
            added = h.added;
            calls = h.past;
            each = all-may number s h.added h.only;
          };
    }

    by-jobs : IsPrefix own now
        → ((o : Opening) (log : List CoreEntry) (run es : List CoreEvent) → Later o now log run
        → AreEventsOf (IsEntryEvent FitsShard CoreShardStands ShardAnswerSays o) now es
        → GoesOnByGroup o session own es)
        → LeavesByJobs cells caller session number s own now
    by-jobs more learns = record {
      left = by-group more learns;
      none = λ o log run es later are.
          let h : GoesOnByGroup o session own es = learns o log run es later are in
          record {
            before = h.before;
            events = h.events;
            added = h.added;
            calls = h.past;
            each = all-ask-none h.added h.only;
          };
    }

    pub by-asking : (shards : ℕ) (call : ShardCall) → HasAskedAll cells caller session shards call own now
        → LeavesByJobs cells caller session number s own now
    by-asking shards call asked =
        by-jobs (asked.more.more, sym asked.more.whole)
        (λ o log run es later are.
        let h = asked.learns o log run es later are in
        record {
          before = h.asked.before;
          events = h.asked.events;
          added = h.asked.added;
          past = h.asked.past;
          only = h.asked.only;
        })

    pub by-putting : (shards cube epoch : ℕ) (shape : CubeShape) (rows : List CodedRow) (told : PutEnd) → IsPrefix own now
        → LearnsOfRows cells caller session shards cube shape epoch rows told own now
        → LeavesByJobs cells caller session number s own now
    by-putting shards cube epoch shape rows told more learns =
        by-jobs more
        (λ o log run es later are.
        let h = learns o log run es later are in
        record { before = h.before; events = h.events; added = h.added; past = h.past; only = h.only })
