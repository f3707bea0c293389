-- A statement that does nothing to rows, by calls that add no operation, is performed.
use Rattle.std.proofs.Common.{◌≡◌, ℕ, ◌+◌, List, [], ◌∷◌, ◌++◌, Option, sym, subst}
use mathlib.Core.List.{IsPrefix}
use Rattle.core_cubes.proofs.CallsForStatements.{no-operation, plain-asks, plain-for}
use Rattle.core_cubes.proofs.CallsGoOn.{go-on-as}
use Rattle.core_cubes.specs.ExecutedWatched.{ExecutesWatched}
use Rattle.core_cubes.specs.StatementCalls.{IsCallFor}
use Rattle.core_events.specs.Events.{Opening}
use Rattle.core_events.specs.Jobs.{CoreJob, JobOutcome}
use Rattle.core_events.specs.ShardView.{ShardView}
use Rattle.core_states.specs.CorePasts.{CorePast, IsOneMore, last_number, last_step}
use Rattle.core_program.specs.CoreFits.{CoreEntry}
use Rattle.core_records.specs.CoreRecords.{record_of}
use Rattle.core_states.specs.ExecutedInCore.{ExecutesInCore, HasExecutedInCore}
use Rattle.core_states.specs.LeftBehind.{AsksForNone, GoOnByCalls, IsPlainCall}
use Rattle.core_states.specs.StandingInCore.{StandsInCore, state_of_session}
use Rattle.core_states.specs.declared.session.CoreSession.{CoreSession}
use Rattle.cube_core.specs.declared.cell.CoreCell.{CoreCell}
use Rattle.cube_core.specs.declared.shard.ShardAnswer.{ShardAnswer}
use Rattle.cube_core.specs.declared.shard.ShardCall.{ShardCall}
use Rattle.cube_journal.specs.declared.journal_entry.JournalEntry.{JournalEntry}
use Rattle.cube_journal.specs.declared.reply.Reply.{Reply}
use Rattle.cube_language.specs.declared.statement.Statement.{Statement}
use Rattle.cube_run.specs.RunRecords.{LoadedFile, RunRecord, Sentence, Says}
use Rattle.cube_run.specs.RunText.{IsReply}
use Rattle.cube_run.specs.SessionStates.{KeptWatch, SessionState, session_after}
use Rattle.cube_run.specs.SessionSteps.{SessionStep}
use Rattle.scripted_pasts.proofs.NamesMore.{none-more, with-statement as names-with-statement}
use Rattle.scripted_pasts.proofs.StepsNamed.{nothing-named}
use Rattle.posted_pasts.proofs.AddedCalls.{plain-learns}
use Rattle.posted_pasts.proofs.DoneSteps.{by-no-change, by-no-statement, by-reply}
use Rattle.posted_pasts.proofs.PostsMore.{with-calls, with-statement}
use Rattle.posted_pasts.specs.DoneChanges.{HasNoOperation}
use Rattle.posted_pasts.specs.PostsAdded.{AddsNoOperation, LearnsThat}
use Rattle.posted_pasts.specs.PostsBehind.{InEachRun, PostsStandBehind}
use Rattle.scripted_pasts.proofs.QuietLearns.{kind-learns}
use Rattle.scripted_pasts.proofs.SpokenMore.{plain-calls-speak, statement-calls-speak}
use Rattle.scripted_pasts.specs.BehindScripts.{StandsForScript}
use Rattle.scripted_pasts.specs.Performed.{HasPerformed, Performs, PerformsWatched, WhateverFile, every_of}
use Rattle.scripted_pasts.specs.ScriptClaims.{IsRunOfScripts, OpensForScripts}
use Rattle.scripted_pasts.specs.SpokenCalls.{SpeakBySentences}
use Rattle.scripted_pasts.specs.UnchangedRows.{ChangesNoRows, spells_none, is_no_change, is_refused}

nothing-done : (run : RunRecord) (step : SessionStep) (said : Reply) → ChangesNoRows step.sentence said
    → IsReply run step said → HasNoOperation run step
nothing-done run step said (spells_none at is) answered = by-no-statement run step at is
nothing-done run step said (is_no_change s is none) answered = by-no-change run step s is none
nothing-done run step said (is_refused r is) answered =
    by-reply run step r (subst (λ (reply : Reply). IsReply run step reply) is answered)

module _ {S : Type 0} (fits : Opening → ℕ → ShardCall → Type 0) (stands : Opening → ℕ → ℕ → S → ShardView → Type 0)
    (says : CoreJob → ShardAnswer → JobOutcome → Type 0) (cells : List (CoreCell S)) (caller : ℕ) where
  module _ (session every : ℕ) (past after : CorePast) (state next : SessionState) (sentence : Sentence)
      (added : List JournalEntry) (own now : List CoreEntry) (said : Reply)
      (m : IsOneMore past after sentence added) where
    abbrev step : SessionStep
    step = last_step session after state sentence added

    -- By calls that add no operation and speak by the script with the statement, where the statement does nothing to
    -- rows in each run that opens so.
    pub performed : (IsFile : LoadedFile → Type 0) → IsFile (after.files (last_number after))
        → next ≡ session_after state sentence added → IsPrefix own now
        → StandsInCore fits stands says cells caller session now after
        → LearnsThat fits stands says AddsNoOperation cells caller session own now
        → GoOnByCalls fits stands says cells caller session AsksForNone own now
        → SpeakBySentences fits stands says cells caller session after.sentences now
        → InEachRun fits stands says cells caller session (OpensForScripts every) after (λ run. HasNoOperation run step)
        → InEachRun fits stands says cells caller session (IsRunOfScripts every) after (λ run. IsReply run step said)
        → StandsForScript fits stands says cells caller session own every past state
        → HasPerformed fits stands says cells caller session every IsFile past state sentence own now next said
    performed IsFile file becomes more there learns asks speak none answers b = record {
      after = after;
      added = added;
      more = m;
      becomes = becomes;
      goes_on = more;
      stands_then = record {
        stands_there = there;
        posts =
            subst (λ (s : SessionState). PostsStandBehind fits stands says cells caller session
            (OpensForScripts every) after now s) (sym becomes)
            (with-statement fits stands says cells caller session (OpensForScripts every) past after state sentence
            added b.stands_there.turn m now none
            (with-calls fits stands says cells caller session (OpensForScripts every) past own now state more learns
            b.posts));
        names =
            names-with-statement fits stands says cells caller session (OpensForScripts every) past after state sentence
            added b.stands_there.turn m own now more b.posts.becomes
            (none-more fits stands says cells caller session (OpensForScripts every) after own now asks)
            (λ o given events from also.
            nothing-named (record_of o given events) step (none o given events from also)) b.names;
        speaks = speak;
      };
      file = file;
      answers = answers;
    }

  -- Where the statement is executed in the core.
  executed-performs : (session every : ℕ) (past : CorePast) (state next : SessionState) (sentence : Sentence)
      (own now : List CoreEntry) (said : Reply) → ChangesNoRows sentence said
      → LearnsThat fits stands says AddsNoOperation cells caller session own now
      → GoOnByCalls fits stands says cells caller session AsksForNone own now
      → ((after : List Sentence) → after ≡ past.sentences ++ sentence ∷ []
      → SpeakBySentences fits stands says cells caller session after now)
      → StandsForScript fits stands says cells caller session own every past state
      → HasExecutedInCore fits stands says cells caller session every past state sentence own now next said
      → HasPerformed fits stands says cells caller session every WhateverFile past state sentence own now next said
  executed-performs session every past state next sentence own now said none learns asks speak b x =
      performed session every past x.after state next sentence x.added own now said x.more WhateverFile tt x.becomes
      x.goes_on x.stands_then learns asks (speak x.after.sentences x.more.sentences)
      (λ o given events from also.
      nothing-done (record_of o given events) (last_step session x.after state sentence x.added) said none
      (x.answers o given events from also.every_is))
      (λ o given events from also. x.answers o given events from also.every_is)
      b

  pub in-core : (sentence : Sentence) (old new : CoreSession) (own now : List CoreEntry) (said : Reply)
      → ExecutesInCore fits stands says cells caller sentence old own new now said
      → GoOnByCalls fits stands says cells caller old.number IsPlainCall own now
      → ChangesNoRows sentence said → (watch : Option KeptWatch)
      → Performs fits stands says cells caller WhateverFile sentence old watch own new watch now said
  in-core sentence old new own now said executes goes none watch past b counted =
      let x :
      HasExecutedInCore fits stands says cells caller old.number (every_of old) past (state_of_session old watch)
      sentence own now (state_of_session new watch) said =
      executes past watch b.stands_there counted
      in
      executed-performs old.number (every_of old) past (state_of_session old watch) (state_of_session new watch)
      sentence own now said none (plain-learns fits stands says cells caller old.number own now goes)
      (go-on-as fits stands says cells caller old.number IsPlainCall AsksForNone own now plain-asks goes)
      (λ after is.
      plain-calls-speak fits stands says cells caller old.number past.sentences after sentence own now is x.goes_on goes
      b.speaks)
      b x

  pub when-watched : (s : Statement) (old new : CoreSession) (own now : List CoreEntry) (said : Reply)
      → ExecutesWatched fits stands says cells caller s old own new now said
      → GoOnByCalls fits stands says cells caller old.number (IsCallFor (old.statements + 1) s) own now
      → ChangesNoRows (Says s) said
      → PerformsWatched fits stands says cells caller WhateverFile s old own new now said
  when-watched s old new own now said executes goes none watch may past b counted =
      let x :
      HasExecutedInCore fits stands says cells caller old.number (every_of old) past (state_of_session old watch)
      (Says s) own now (state_of_session new watch) said =
      executes past watch may b.stands_there counted
      in
      executed-performs old.number (every_of old) past (state_of_session old watch) (state_of_session new watch)
      (Says s) own now said none
      (kind-learns fits stands says cells caller old.number (IsCallFor (old.statements + 1) s) own now
      (λ o added before each cube epoch.
      no-operation o old.number cube epoch (old.statements + 1) s added before each) goes)
      (go-on-as fits stands says cells caller old.number (IsCallFor (old.statements + 1) s) AsksForNone own now
      (λ c call. call.asks) goes)
      (λ after is.
      statement-calls-speak fits stands says cells caller old.number past.sentences after s old.statements own now
      counted is x.goes_on goes b.speaks)
      b x

  pub when-plain : (s : Statement) (old new : CoreSession) (own now : List CoreEntry) (said : Reply)
      → ExecutesWatched fits stands says cells caller s old own new now said
      → GoOnByCalls fits stands says cells caller old.number IsPlainCall own now
      → ChangesNoRows (Says s) said
      → PerformsWatched fits stands says cells caller WhateverFile s old own new now said
  when-plain s old new own now said executes goes none =
      when-watched s old new own now said executes
      (go-on-as fits stands says cells caller old.number IsPlainCall (IsCallFor (old.statements + 1) s) own now
      (plain-for (old.statements + 1) s) goes)
      none
