-- A session of the core executes a statement: what is behind it grows by the statement, and stands behind the session as
-- it then is; and each run that goes on from there answers the statement so.
-- Source: this project's own.
use Rattle.std.specs.Prelude.{◌≡◌, ℕ, ◌+◌, ◌≤◌, List, Option, unwrap_or}
use mathlib.Core.List.{IsPrefix}
use Rattle.core_events.specs.Events.{Opening, CoreEvent}
use Rattle.core_events.specs.Jobs.{CoreJob, JobOutcome}
use Rattle.core_events.specs.ShardView.{ShardView}
use Rattle.core_states.specs.CorePasts.{CorePast, IsOneMore, last_number, last_step}
use Rattle.core_states.specs.RunsFrom.{IsRunFrom}
use Rattle.core_program.specs.CoreFits.{CoreEntry}
use Rattle.core_records.specs.CoreRecords.{RunScripts, record_of}
use Rattle.core_states.specs.StandingInCore.{StandsInCore, state_of_session}
use Rattle.core_states.specs.declared.session.CoreSession.{CoreSession}
use Rattle.cube_core.specs.declared.cell.CoreCell.{CoreCell}
use Rattle.cube_core.specs.declared.shard.ShardAnswer.{ShardAnswer}
use Rattle.cube_core.specs.declared.shard.ShardCall.{ShardCall}
use Rattle.cube_journal.specs.declared.journal_entry.JournalEntry.{JournalEntry}
use Rattle.cube_journal.specs.declared.reply.Reply.{Reply}
use Rattle.cube_run.specs.RunRecords.{Sentence}
use Rattle.cube_run.specs.RunText.{IsReply}
use Rattle.cube_run.specs.SessionStates.{KeptWatch, SessionState, session_after}

-- A session has one statement more.
pub record HasOneMore (old new : CoreSession) : Type 0 where
  pub number : new.number ≡ old.number
  pub statements : new.statements ≡ old.statements + 1
  pub every : new.round_every ≡ old.round_every
  pub counted : new.commits ≤ new.statements

module _ {S : Type 0} (fits : Opening → ℕ → ShardCall → Type 0) (stands : Opening → ℕ → ℕ → S → ShardView → Type 0)
    (says : CoreJob → ShardAnswer → JobOutcome → Type 0) (cells : List (CoreCell S)) (caller : ℕ) where
  -- A statement that says this is executed in runs whose rounds follow after so many commits, and the session is
  -- answered so.
  pub record HasExecutedInCore (session every : ℕ) (past : CorePast) (state : SessionState) (sentence : Sentence)
      (own now : List CoreEntry) (next : SessionState) (said : Reply) : Type 0 where
    pub after : CorePast
    pub added : List JournalEntry
    pub more : IsOneMore past after sentence added
    pub goes_on : IsPrefix own now
    pub becomes : next ≡ session_after state sentence added
    pub answers : (o : Opening) (given : RunScripts) (events : List CoreEvent)
        → IsRunFrom fits stands says cells caller session after o given events → given.round_every ≡ every
        → IsReply (record_of o given events) (last_step session after state sentence added) said
    pub stands_then : StandsInCore fits stands says cells caller session now after

  -- A session executes it with these calls, whatever is behind it and whatever watch it has.
  abbrev pub ExecutesInCore : Sentence → CoreSession → List CoreEntry → CoreSession → List CoreEntry → Reply → Type 0
  ExecutesInCore sentence old own new now said =
      (past : CorePast) (watch : Option KeptWatch) → StandsInCore fits stands says cells caller old.number own past
      → old.statements ≡ last_number past
      → HasExecutedInCore old.number (unwrap_or old.round_every 0) past (state_of_session old watch) sentence own now
      (state_of_session new watch) said
