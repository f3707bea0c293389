-- Runs of the core that have come to their end.
-- Source: this project's own.
use Rattle.std.specs.Prelude.{◌≡◌, ℕ, ◌+◌, List, ◌++◌}
use Rattle.turn_board.specs.History.{of_caller}
use Rattle.cube_core.specs.Links.{AreEventsOf}
use Rattle.cube_core.specs.BoardCells.{IsEntryEvent}
use Rattle.core_program.specs.Knowing.{IsClientOf}
use Rattle.core_events.specs.Events.{Opening, CoreEvent}
use Rattle.core_events.specs.Jobs.{CoreJob, JobOutcome}
use Rattle.core_events.specs.Runs.{IsCoreRun}
use Rattle.core_events.specs.ShardView.{ShardView}
use Rattle.core_states.specs.CorePasts.{CorePast, IsInTurn, IsNumberBehind, last_number}
use Rattle.core_states.specs.OwnCalls.{OwnCallsLeave}
use Rattle.core_states.specs.RunsFrom.{GoesOn, RunClaim}
use Rattle.core_program.specs.CoreFits.{CoreEntry, OpensCells}
use Rattle.core_records.specs.CoreRecords.{RunScripts}
use Rattle.core_records.specs.ScriptedCalls.{FollowScripts, script_given}
use Rattle.cube_core.specs.declared.cell.CoreCell.{CoreCell}
use Rattle.cube_core.specs.declared.shard.ShardAnswer.{ShardAnswer}
use Rattle.cube_core.specs.declared.shard.ShardCall.{ShardCall}
use Rattle.cube_journal.specs.declared.reply.Reply.{Reply}
use Rattle.cube_run.specs.SessionStates.{SessionState}
use Rattle.cube_run.specs.StatementEntries.{script_end}
use Rattle.played_scripts.specs.Promises.{IsPlayed}

module _ {S : Type 0} (fits : Opening → ℕ → ShardCall → Type 0) (stands : Opening → ℕ → ℕ → S → ShardView → Type 0)
    (says : CoreJob → ShardAnswer → JobOutcome → Type 0) (cells : List (CoreCell S)) (o : Opening)
    (given : RunScripts) (log : List CoreEntry) where
  -- A history from the cells is such a run, in which each session follows its script.
  pub record IsScriptedHistory (run : List CoreEvent) : Type 0 where
    pub opens : OpensCells fits stands says o cells log
    pub events : AreEventsOf (IsEntryEvent fits stands says o) log run
    pub is_run : IsCoreRun o run
    pub follow : FollowScripts o given run

  -- A session has played its whole script, with these replies. With its last calls it has left what a script's end
  -- leaves in its state, and the history has no other calls of it.
  pub record HasEnded (besides : RunClaim) (session : ℕ) (replies : List Reply) : Type 0 where
    pub caller : ℕ
    pub client : IsClientOf fits stands says cells caller session
    pub past : CorePast
    pub turn : IsInTurn past
    pub script : script_given given session ≡ past.sentences
    pub files : (number : ℕ) → IsNumberBehind past number → given.file session number ≡ past.files number
    pub state : SessionState
    pub played : IsPlayed (GoesOn fits stands says cells caller session besides) session past.sentences past replies
        state
    pub ending : List CoreEntry
    pub own : of_caller caller log ≡ past.own ++ ending
    pub leaves : OwnCallsLeave fits stands says cells caller session (past.own ++ ending)
        (past.entries ++ script_end session (last_number past + 1) state.mode state.watch)
