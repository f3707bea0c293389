-- A history of the core in which each session has played its script to the end, and its run as it is on record.
-- Source: this project's own; linearizability (Herlihy and Wing, 1990) makes one list of the calls of all threads.
use Rattle.std.specs.Prelude.{◌≡◌, ℕ, ◌-◌, List, [], length, slice_get, unwrap_or}
use Rattle.core_agreements.specs.ScriptedRuns.{IsScriptedRun, OpensWithCubes}
use Rattle.cube_core.specs.Links.{AreEventsOf}
use Rattle.core_events.specs.Cells.{desk_of}
use Rattle.core_events.specs.Events.{Opening, IsSession, CoreEvent}
use Rattle.core_events.specs.Jobs.{CoreJob, JobOutcome}
use Rattle.core_events.specs.Runs.{IsCoreRun}
use Rattle.core_events.specs.ShardView.{ShardView}
use Rattle.cube_core.specs.BoardCells.{IsEntryEvent}
use Rattle.core_program.specs.CoreFits.{CoreEntry, OpensCells}
use Rattle.core_records.specs.CoreRecords.{RunScripts, record_of}
use Rattle.core_serial.specs.Journals.{journal_of}
use Rattle.cube_core.specs.declared.cell.CoreCell.{CoreCell}
use Rattle.cube_core.specs.declared.shard.ShardAnswer.{ShardAnswer}
use Rattle.cube_core.specs.declared.shard.ShardCall.{ShardCall}
use Rattle.cube_journal.specs.WholeText.{whole_text}
use Rattle.cube_journal.specs.declared.reply.Reply.{Reply}
use Rattle.cube_run.specs.FinalNames.{FinalNamesFit}
use Rattle.cube_run.specs.Merge.{IsMerge}
use Rattle.cube_run.specs.RunRecords.{IsLegalRun, Sentence}
use Rattle.cube_run.specs.RunText.{IsText}
use Rattle.one_session.specs.Pasts.{EndsWithMore}
use Rattle.played_scripts.specs.PlayedRuns.{HavePlayed}
use Rattle.scripted_ends.specs.EndedScripts.{HasPlayedToTheEnd}
use Rattle.scripted_pasts.specs.PlayedScripts.{AreKnownFiles, FileClaim}

-- What stands in a list for a session, counted from 1: its script among scripts, its replies among replies.
abbrev pub of_session : {X : Type 0} → List (List X) → ℕ → List X
of_session lists session = unwrap_or (slice_get lists (session - 1)) []

module _ {S : Type 0} (fits : Opening → ℕ → ShardCall → Type 0) (stands : Opening → ℕ → ℕ → S → ShardView → Type 0)
    (says : CoreJob → ShardAnswer → JobOutcome → Type 0) (cells : List (CoreCell S)) (o : Opening)
    (log : List CoreEntry) where
  -- A history from the cells is this run of the core, which opens with the cubes that it has.
  pub record IsRunOfHistory (run : List CoreEvent) : Type 0 where
    pub opens : OpensCells fits stands says o cells log
    pub events : AreEventsOf (IsEntryEvent fits stands says o) log run
    pub is_run : IsCoreRun o run
    pub cubes : OpensWithCubes o (desk_of o run).cubes

  -- There are so many scripts and lists of replies as sessions, and each session has played its script to the end by
  -- its own calls, with its replies. Of the files of each session this is known. A round follows after so many commits.
  pub record HaveAllPlayed (IsFile : ℕ → FileClaim) (every : ℕ) (scripts : List (List Sentence))
      (replies : List (List Reply)) : Type 0 where
    pub as_many_scripts : length scripts ≡ o.sessions
    pub as_many_replies : length replies ≡ o.sessions
    pub each : (session : ℕ) → IsSession o session
        → HasPlayedToTheEnd fits stands says cells (IsFile session) every session (of_session scripts session)
        (of_session replies session) log

-- The run on record has these scripts, the files that each session had, and a round after so many commits. Each session
-- follows its script, and its posts stand for what its statements did. Every statement of every script has its
-- reply, so the journal is a legal merge of the scripts, and the text is that of these replies and of the journal. The
-- dictionaries begin with those of the opening, and fit the run.
pub record IsPlayedRun (IsFile : ℕ → FileClaim) (every : ℕ) (scripts : List (List Sentence)) (replies : List (List Reply))
    (o : Opening) (events : List CoreEvent) : Type 0 where
  pub given : RunScripts
  pub scripts_are : given.scripts ≡ scripts
  pub every_is : given.round_every ≡ every
  pub files : (session : ℕ) → IsSession o session
      → AreKnownFiles (IsFile session) (of_session scripts session) (of_session replies session) (given.file session)
  pub run : IsScriptedRun o given events
  pub played : HavePlayed (record_of o given events) replies
  pub legal : IsLegalRun (record_of o given events)
  pub merge : IsMerge (record_of o given events)
  pub text : IsText (record_of o given events) (whole_text o.safe replies (journal_of o events))
  pub names : EndsWithMore (record_of o given events) (record_of o given events).kept_names
  pub fit : FinalNamesFit (record_of o given events)
