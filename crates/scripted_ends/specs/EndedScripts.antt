-- A session of the core that has played its script to the end.
-- Source: this project's own.
use Rattle.std.specs.Prelude.{◌≡◌, ℕ, ◌+◌, List, Option}
use Rattle.core_events.specs.Events.{Opening}
use Rattle.core_events.specs.Jobs.{CoreJob, JobOutcome}
use Rattle.core_events.specs.ShardView.{ShardView}
use Rattle.core_program.specs.CoreFits.{CoreEntry}
use Rattle.core_program.specs.Knowing.{IsClientOf}
use Rattle.core_states.specs.declared.session.CoreSession.{CoreSession}
use Rattle.cube_core.specs.declared.cell.CoreCell.{CoreCell}
use Rattle.cube_core.specs.declared.shard.ShardAnswer.{ShardAnswer}
use Rattle.cube_core.specs.declared.shard.ShardCall.{ShardCall}
use Rattle.cube_journal.specs.declared.reply.Reply.{Reply}
use Rattle.cube_run.specs.RunRecords.{Sentence}
use Rattle.cube_run.specs.SessionStates.{KeptWatch}
use Rattle.cube_run.specs.StatementEntries.{script_end}
use Rattle.scripted_pasts.specs.Performed.{every_of}
use Rattle.scripted_pasts.specs.PlayedScripts.{FileClaim, HasPlayedScript}
use Rattle.scripted_pasts.specs.QuietCalls.{LeavesQuietly}
use Rattle.session_replies.specs.Modes.{mode_of}
use Rattle.turn_board.specs.History.{of_caller}

module _ {S : Type 0} (fits : Opening → ℕ → ShardCall → Type 0) (stands : Opening → ℕ → ℕ → S → ShardView → Type 0)
    (says : CoreJob → ShardAnswer → JobOutcome → Type 0) (cells : List (CoreCell S)) where
  -- From its own calls to those a session has ended its script: it has left what a script's end leaves, where a
  -- transaction is open its abort and where there is a watch its end, by calls that change no rows and speak of no
  -- cube.
  abbrev pub EndsScript : ℕ → CoreSession → Option KeptWatch → List CoreEntry → List CoreEntry → Type 0
  EndsScript caller session watch own now =
      LeavesQuietly fits stands says cells caller session.number own now
      (script_end session.number (session.statements + 1) (mode_of session.mode) watch)

  -- A session has played this script to the end, and was answered so. It has no other calls in the history.
  pub record HasPlayedToTheEnd (IsFile : FileClaim) (every session : ℕ) (script : List Sentence)
      (replies : List Reply) (log : List CoreEntry) : Type 0 where
    pub caller : ℕ
    pub client : IsClientOf fits stands says cells caller session
    pub last : CoreSession
    pub number_is : last.number ≡ session
    pub every_is : every_of last ≡ every
    pub watch : Option KeptWatch
    pub own : List CoreEntry
    pub played : HasPlayedScript fits stands says cells caller IsFile last watch own script replies
    pub ends : EndsScript caller last watch own (of_caller caller log)
