-- A session of the core performs a statement of its script: what is behind it grows by the statement, and stands for
-- the script still; and in each run of scripts that goes on from there the statement is answered so.
-- Source: this project's own.
use Rattle.std.specs.Prelude.{◌≡◌, ℕ, List, Option, None, unwrap_or}
use mathlib.Core.List.{IsPrefix}
use Rattle.core_events.specs.Events.{Opening}
use Rattle.core_events.specs.Jobs.{CoreJob, JobOutcome}
use Rattle.core_events.specs.ShardView.{ShardView}
use Rattle.core_states.specs.CorePasts.{CorePast, IsOneMore, last_number, last_step}
use Rattle.core_program.specs.CoreFits.{CoreEntry}
use Rattle.core_states.specs.StandingInCore.{state_of_session}
use Rattle.core_states.specs.declared.session.CoreSession.{CoreSession}
use Rattle.cube_core.specs.declared.cell.CoreCell.{CoreCell}
use Rattle.cube_core.specs.declared.shard.ShardAnswer.{ShardAnswer}
use Rattle.cube_core.specs.declared.shard.ShardCall.{ShardCall}
use Rattle.cube_journal.specs.declared.journal_entry.JournalEntry.{JournalEntry}
use Rattle.cube_journal.specs.declared.reply.Reply.{Reply}
use Rattle.cube_language.specs.declared.statement.Statement.{Statement}
use Rattle.cube_run.specs.RunRecords.{LoadedFile, Sentence, Says}
use Rattle.cube_run.specs.RunText.{IsReply}
use Rattle.cube_run.specs.SessionStates.{KeptWatch, SessionState, session_after}
use Rattle.cube_run.specs.StepOutcomes.{refused_by_watch}
use Rattle.posted_pasts.specs.PostsBehind.{InEachRun}
use Rattle.scripted_pasts.specs.BehindScripts.{StandsForScript}
use Rattle.scripted_pasts.specs.ScriptClaims.{IsRunOfScripts}

-- After so many commits of a session a round follows, or after none.
abbrev pub every_of : CoreSession → ℕ
every_of session = unwrap_or session.round_every 0

-- Nothing is said of a file.
abbrev pub WhateverFile : LoadedFile → Type 0
WhateverFile file = Unit {0}

module _ {S : Type 0} (fits : Opening → ℕ → ShardCall → Type 0) (stands : Opening → ℕ → ℕ → S → ShardView → Type 0)
    (says : CoreJob → ShardAnswer → JobOutcome → Type 0) (cells : List (CoreCell S)) (caller : ℕ) where
  -- With a file of which this is so, where the statement is a LOAD.
  pub record HasPerformed (session every : ℕ) (IsFile : LoadedFile → Type 0) (past : CorePast) (state : SessionState)
      (sentence : Sentence) (own now : List CoreEntry) (next : SessionState) (said : Reply) : Type 0 where
    pub after : CorePast
    pub added : List JournalEntry
    pub more : IsOneMore past after sentence added
    pub becomes : next ≡ session_after state sentence added
    pub goes_on : IsPrefix own now
    pub stands_then : StandsForScript fits stands says cells caller session now every after next
    pub file : IsFile (after.files (last_number after))
    pub answers : InEachRun fits stands says cells caller session (IsRunOfScripts every) after
        (λ run. IsReply run (last_step session after state sentence added) said)

  -- A session with a watch, or without one, performs it with these calls, whatever is behind it.
  abbrev pub Performs : (LoadedFile → Type 0) → Sentence → CoreSession → Option KeptWatch → List CoreEntry → CoreSession
      → Option KeptWatch → List CoreEntry → Reply → Type 0
  Performs IsFile sentence old watch own new kept now said =
      (past : CorePast)
      → StandsForScript fits stands says cells caller old.number own (every_of old) past (state_of_session old watch)
      → old.statements ≡ last_number past
      → HasPerformed old.number (every_of old) IsFile past (state_of_session old watch) sentence own now
      (state_of_session new kept) said

  -- The same of whatever watch it has that lets the statement, which leaves the watch as it is.
  abbrev pub PerformsWatched : (LoadedFile → Type 0) → Statement → CoreSession → List CoreEntry → CoreSession
      → List CoreEntry → Reply → Type 0
  PerformsWatched IsFile s old own new now said =
      (watch : Option KeptWatch) → refused_by_watch watch s ≡ None
      → Performs IsFile (Says s) old watch own new watch now said
