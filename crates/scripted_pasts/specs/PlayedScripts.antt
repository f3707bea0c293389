-- What a session of the core has played of its script.
-- Source: this project's own. A promise of what was done speaks of every run that begins with it, as with prophecy
-- variables (Abadi and Lamport, 1991).
use Rattle.std.specs.Prelude.{◌≡◌, ℕ, List, Option}
use Rattle.std.specs.List.{AllZip, enumerate_from}
use Rattle.core_events.specs.Events.{Opening}
use Rattle.core_events.specs.Jobs.{CoreJob, JobOutcome}
use Rattle.core_events.specs.ShardView.{ShardView}
use Rattle.core_states.specs.CorePasts.{CorePast, last_number}
use Rattle.core_states.specs.RunsFrom.{GoesOn}
use Rattle.core_program.specs.CoreFits.{CoreEntry}
use Rattle.core_states.specs.StandingInCore.{state_of_session}
use Rattle.core_states.specs.declared.session.CoreSession.{CoreSession}
use Rattle.cube_core.specs.declared.cell.CoreCell.{CoreCell}
use Rattle.cube_core.specs.declared.shard.ShardAnswer.{ShardAnswer}
use Rattle.cube_core.specs.declared.shard.ShardCall.{ShardCall}
use Rattle.cube_journal.specs.declared.reply.Reply.{Reply}
use Rattle.cube_run.specs.RunRecords.{LoadedFile, Sentence}
use Rattle.cube_run.specs.SessionStates.{KeptWatch}
use Rattle.played_scripts.specs.Promises.{IsPlayed}
use Rattle.scripted_pasts.specs.BehindScripts.{StandsForScript}
use Rattle.scripted_pasts.specs.Performed.{every_of}
use Rattle.scripted_pasts.specs.ScriptClaims.{IsRunOfScripts}

-- What is known of the file that a statement of a session had, by its number, what it says and its reply.
abbrev pub FileClaim : Type 1
FileClaim = ℕ → Sentence → Reply → LoadedFile → Type 0

-- It is known of the file of each statement of a script, with these replies.
abbrev pub AreKnownFiles : FileClaim → List Sentence → List Reply → (ℕ → LoadedFile) → Type 0
AreKnownFiles IsFile script replies files =
    AllZip (λ p said. IsFile p.0 p.1 said (files p.0)) (enumerate_from 1 script) replies

module _ {S : Type 0} (fits : Opening → ℕ → ShardCall → Type 0) (stands : Opening → ℕ → ℕ → S → ShardView → Type 0)
    (says : CoreJob → ShardAnswer → JobOutcome → Type 0) (cells : List (CoreCell S)) (caller : ℕ) where
  -- The session, with its watch if it has one, has played this script and no more: it stands behind it, and in each run
  -- of scripts that goes on from there its statements have these replies.
  pub record HasPlayedScript (IsFile : FileClaim) (session : CoreSession) (watch : Option KeptWatch)
      (own : List CoreEntry) (script : List Sentence) (replies : List Reply) : Type 0 where
    pub past : CorePast
    pub sentences : past.sentences ≡ script
    pub counted : session.statements ≡ last_number past
    pub stands_there : StandsForScript fits stands says cells caller session.number own (every_of session) past
        (state_of_session session watch)
    pub played : IsPlayed (GoesOn fits stands says cells caller session.number (IsRunOfScripts (every_of session)))
        session.number past.sentences past replies (state_of_session session watch)
    pub files : AreKnownFiles IsFile script replies past.files
