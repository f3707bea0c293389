-- A statement is executed by what its calls leave, whichever calls they are.
use Rattle.std.proofs.Common.{◌≡◌, ◌∙◌, ℕ, ◌+◌, List, [], ◌∷◌, Option, Some, None, refl, sym, ap, subst, arith, append-nil, length-append}
use mathlib.Core.List.{IsPrefix}
use Rattle.core_cubes.specs.ExecutedWatched.{ExecutesWatched}
use Rattle.core_events.specs.Events.{Opening}
use Rattle.core_events.specs.Jobs.{CoreJob, JobOutcome}
use Rattle.core_events.specs.ShardView.{ShardView}
use Rattle.core_states.proofs.LongerPasts.{in-turn-after}
use Rattle.core_states.specs.CorePasts.{IsOneMore, last_number, last_step}
use Rattle.core_program.specs.CoreFits.{CoreEntry}
use Rattle.core_records.specs.CoreRecords.{record_of}
use Rattle.core_states.proofs.Growing.{IsStepOf, grown, parts-of}
use Rattle.core_states.proofs.LeftCalls.{longer-front}
use Rattle.core_states.proofs.Refused.{counted}
use Rattle.core_states.specs.ExecutedInCore.{ExecutesInCore}
use Rattle.core_states.specs.LeftBehind.{AddsEntries}
use Rattle.core_states.specs.StandingInCore.{state_of_session}
use Rattle.core_states.specs.declared.session.CoreSession.{CoreSession}
use Rattle.cube_core.specs.declared.cell.CoreCell.{CoreCell}
use Rattle.cube_core.specs.declared.shard.ShardAnswer.{ShardAnswer}
use Rattle.cube_core.specs.declared.shard.ShardCall.{ShardCall}
use Rattle.cube_journal.specs.declared.journal_entry.JournalEntry.{JournalEntry}
use Rattle.cube_journal.specs.declared.journal_entry.JournalEntry.TheVariants as entry
use Rattle.cube_journal.specs.declared.reply.Reply.{Reply}
use Rattle.cube_language.specs.declared.statement.Statement.{Statement}
use Rattle.cube_language.specs.declared.statement.Statement.TheVariants.{Watch, ShowWatch}
use Rattle.cube_run.specs.RunRecords.{RunRecord, Says, Sentence}
use Rattle.cube_run.specs.RunText.{IsReply}
use Rattle.cube_run.specs.SessionStates.{KeptWatch, Mode, Idle, Open, Aborted, SessionState, mode_after, session_after, watch_after}
use Rattle.cube_run.specs.SessionSteps.{SessionStep}
use Rattle.cube_run.specs.StepOutcomes.{refused_by_watch}
use Rattle.played_scripts.specs.PlayedRuns.{AreNumbered}
use Rattle.session_desk.specs.Executed.{IfReplied}
use Rattle.session_desk.specs.declared.answered.Answered.{Answered}
use Rattle.session_desk.specs.declared.answered.Answered.TheVariants.{Replied, Stopped}
use Rattle.session_replies.specs.Modes.{mode_of}
use Rattle.session_replies.specs.StepParts.{IsStep}

-- A refusal leaves the mode and the watch as they are.
refused-keeps-mode : (mode : Mode) (i j n : ℕ) → mode ≡ mode_after mode (entry.Refused i j n ∷ [])
refused-keeps-mode Idle i j n = refl
refused-keeps-mode (Open writer) i j n = refl
refused-keeps-mode (Aborted epoch) i j n = refl

refused-keeps-watch : (watch : Option KeptWatch) (s : Statement) (i j n : ℕ)
    → watch ≡ watch_after watch (Says s) (entry.Refused i j n ∷ [])
refused-keeps-watch None (Watch items cube conds group) i j n = refl
refused-keeps-watch None s i j n = refl
refused-keeps-watch (Some kept) ShowWatch i j n = refl
refused-keeps-watch (Some kept) s i j n = refl

-- What is so for each statement is so for this one.
pub for-this : {X : Type 0} (P : X → Reply → Type 0) (x : X) (result : Answered)
    → IfReplied result (λ said. (y : X) → P y said) → IfReplied result (P x)
for-this P x (Replied said) each = each x
for-this P x Stopped each = tt

module _ {S : Type 0} (fits : Opening → ℕ → ShardCall → Type 0) (stands : Opening → ℕ → ℕ → S → ShardView → Type 0)
    (says : CoreJob → ShardAnswer → JobOutcome → Type 0) (cells : List (CoreCell S)) (caller : ℕ) where
  -- A statement that the watch does not refuse is answered, by what its calls leave.
  pub record IsAnsweredWatched (s : Statement) (old new : CoreSession) (own now : List CoreEntry)
      (added : List JournalEntry) (said : Reply) : Type 0 where
    pub more : IsPrefix own now
    pub entries : AddsEntries fits stands says cells caller old.number own now added
    pub statements : new.statements ≡ old.statements + 1
    pub numbered : AreNumbered new.statements new.statements added
    pub becomes : (watch : Option KeptWatch)
        → state_of_session new watch ≡ session_after (state_of_session old watch) (Says s) added
    pub answers : (watch : Option KeptWatch) → refused_by_watch watch s ≡ None → (run : RunRecord) (step : SessionStep)
        → IsStepOf old new watch (Says s) added step → IsReply run step said

  pub executes-watched : (s : Statement) (old new : CoreSession) (own now : List CoreEntry) (added : List JournalEntry)
      (said : Reply) → IsAnsweredWatched s old new own now added said
      → ExecutesWatched fits stands says cells caller s old own new now said
  executes-watched s old new own now added said h past watch lets st count =
      let after = grown past (Says s) now added in
      let number : new.statements ≡ last_number past + 1 = h.statements ∙ ap (λ (n : ℕ). n + 1) count in
      let longer : last_number after ≡ new.statements = length-append past.sentences (Says s ∷ []) ∙ sym number in
      let one : IsOneMore past after (Says s) added = record {
        sentences = refl;
        files = λ n l. refl;
        own = longer-front past.own own now st.begins h.more;
        entries = refl;
        numbered = subst (λ (n : ℕ). AreNumbered n n added) number h.numbered;
      } in
      record {
        after = after;
        added = added;
        more = one;
        becomes = h.becomes watch;
        answers = λ o given events from same.
            h.answers watch lets (record_of o given events)
            (last_step old.number after (state_of_session old watch) (Says s) added)
            (record {
              session_is = refl;
              number_is = longer;
              sentence_is = refl;
              state_is = refl;
              entries_are = refl;
            });
        goes_on = h.more;
        stands_then = record {
          turn = in-turn-after past after (Says s) added one st.turn;
          begins = ([], append-nil now);
          leaves = h.entries past.entries st.leaves;
        };
      }

  -- Where no watch refuses the statement, it is executed whatever watch there is, and the other way round.
  pub whatever-watch : (s : Statement) (old new : CoreSession) (own now : List CoreEntry) (said : Reply)
      → ((watch : Option KeptWatch) → refused_by_watch watch s ≡ None)
      → ExecutesWatched fits stands says cells caller s old own new now said
      → ExecutesInCore fits stands says cells caller (Says s) old own new now said
  whatever-watch s old new own now said lets h past watch st count = h past watch (lets watch) st count

  pub watched-for-this : (s : Statement) (old new : CoreSession) (own now : List CoreEntry) (result : Answered)
      → IfReplied result (λ said. (sentence : Sentence)
      → ExecutesInCore fits stands says cells caller sentence old own new now said)
      → IfReplied result (ExecutesWatched fits stands says cells caller s old own new now)
  watched-for-this s old new own now (Replied said) h = λ past watch lets st count. h (Says s) past watch st count
  watched-for-this s old new own now Stopped h = tt

  -- A statement leaves a refusal alone, and is answered by it.
  pub refuses-so : (s : Statement) (n : ℕ) (said : Reply) (session : CoreSession) (own now : List CoreEntry)
      → IsPrefix own now
      → AddsEntries fits stands says cells caller session.number own now
      (entry.Refused session.number (session.statements + 1) n ∷ [])
      → ((watch : Option KeptWatch) → refused_by_watch watch s ≡ None → (run : RunRecord) (step : SessionStep)
      → step.state.watch ≡ watch
      → IsStep step (mode_of session.mode) (Says s) (entry.Refused step.session step.number n ∷ [])
      → IsReply run step said)
      → ExecutesWatched fits stands says cells caller s session own (counted session) now said
  refuses-so s n said session own now more adds answers =
      let number : ℕ = session.statements + 1 in
      let added : List JournalEntry = entry.Refused session.number number n ∷ [] in
      let none : session.commits ≡ session.commits + 0 = omega arith in
      executes-watched s session (counted session) own now added said (record {
        more = more;
        entries = adds;
        statements = refl;
        numbered = (omega arith, omega arith, tt);
        becomes = λ watch i. record {
          mode = refused-keeps-mode (mode_of session.mode) session.number number n i;
          watch = refused-keeps-watch watch s session.number number n i;
          commits = none i;
        };
        answers = λ watch lets run step at.
            answers watch lets run step (ap (λ (x : SessionState). x.watch) at.state_is)
            (parts-of session (counted session) watch (mode_of session.mode) (Says s)
            (λ i j. entry.Refused i j n ∷ []) step refl at);
      })
