-- The runs of the core that may go on from what a session has behind it.
-- Source: this project's own. A promise of what was done speaks of every run that begins with it, as with prophecy
-- variables (Abadi and Lamport, 1991).
use Rattle.std.specs.Prelude.{◌≡◌, ℕ, List, [], ◌++◌, filter}
use Rattle.cube_core.specs.declared.cell.CoreCell.{CoreCell}
use Rattle.cube_core.specs.declared.shard.ShardAnswer.{ShardAnswer}
use Rattle.cube_core.specs.declared.shard.ShardCall.{ShardCall}
use Rattle.cube_journal.specs.declared.journal_entry.JournalEntry.{JournalEntry}
use Rattle.cube_run.specs.RunRecords.{RunRecord, Sentence}
use Rattle.cube_run.specs.SessionSteps.{is_of_statement, session_part}
use Rattle.core_program.specs.Knowing.{IsLaterRun}
use Rattle.core_events.specs.Events.{Opening, CoreEvent}
use Rattle.core_events.specs.Jobs.{CoreJob, JobOutcome}
use Rattle.core_events.specs.ShardView.{ShardView}
use Rattle.core_serial.specs.Journals.{journal_of}
use Rattle.core_states.specs.CorePasts.{CorePast, IsNumberBehind}
use Rattle.core_program.specs.CoreFits.{CoreEntry}
use Rattle.core_records.specs.CoreRecords.{RunScripts, record_of}
use Rattle.core_records.specs.ScriptedCalls.{FollowScripts, script_given}

-- What is asked of a run besides.
abbrev pub RunClaim : Type 1
RunClaim = Opening → RunScripts → List CoreEvent → Type 0

module _ {S : Type 0} (fits : Opening → ℕ → ShardCall → Type 0) (stands : Opening → ℕ → ℕ → S → ShardView → Type 0)
    (says : CoreJob → ShardAnswer → JobOutcome → Type 0) (cells : List (CoreCell S)) (caller session : ℕ) where
  -- A run with a history in which the caller's calls begin with those behind the session. Its script begins with the
  -- statements behind it, their files gave what they gave, its part of the journal begins with the entries behind it,
  -- and none of these statements has an entry more. The other sessions, too, follow their scripts.
  pub record IsRunFrom (past : CorePast) (o : Opening) (given : RunScripts) (events : List CoreEvent) : Type 0 where
    pub log : List CoreEntry
    pub run : IsLaterRun fits stands says cells o caller past.own log events
    pub follow : FollowScripts o given events
    pub rest : List Sentence
    pub script : script_given given session ≡ past.sentences ++ rest
    pub files : (number : ℕ) → IsNumberBehind past number → given.file session number ≡ past.files number
    pub later : List JournalEntry
    pub part : session_part session (journal_of o events) ≡ past.entries ++ later
    pub others : (number : ℕ) → IsNumberBehind past number → filter (is_of_statement number) later ≡ []

  -- What is on record of such a run, of which this is asked besides.
  pub record GoesOn (besides : RunClaim) (past : CorePast) (run : RunRecord) : Type 0 where
    pub opening : Opening
    pub given : RunScripts
    pub events : List CoreEvent
    pub from : IsRunFrom past opening given events
    pub is : run ≡ record_of opening given events
    pub also : besides opening given events
