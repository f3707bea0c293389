-- What is behind a session grows by a statement that is answered.
use Rattle.std.proofs.Common.{◌≡◌, ◌∙◌, ℕ, ◌+◌, List, [], ◌∷◌, ◌++◌, Option, unwrap_or, refl, sym, ap, subst, append-nil, length-append}
use Rattle.core_events.specs.Events.{Opening, CoreEvent}
use Rattle.core_events.specs.Jobs.{CoreJob, JobOutcome}
use Rattle.core_events.specs.ShardView.{ShardView}
use Rattle.core_states.proofs.LongerPasts.{in-turn-after}
use Rattle.core_states.specs.CorePasts.{CorePast, IsInTurn, IsOneMore, last_number, last_step}
use Rattle.core_states.specs.OwnCalls.{OwnCallsLeave}
use Rattle.core_states.specs.RunsFrom.{IsRunFrom}
use Rattle.core_program.specs.CoreFits.{CoreEntry}
use Rattle.core_records.specs.CoreRecords.{RunScripts, record_of}
use Rattle.core_states.proofs.LeftCalls.{longer-front}
use Rattle.core_states.specs.ExecutedInCore.{ExecutesInCore}
use Rattle.core_states.specs.LeftBehind.{LeavesBehind}
use Rattle.core_states.specs.StandingInCore.{state_of_session}
use Rattle.core_states.specs.declared.session.CoreSession.{CoreSession}
use Rattle.cube_core.specs.declared.cell.CoreCell.{CoreCell}
use Rattle.cube_core.specs.declared.shard.ShardAnswer.{ShardAnswer}
use Rattle.cube_core.specs.declared.shard.ShardCall.{ShardCall}
use Rattle.cube_journal.specs.declared.journal_entry.JournalEntry.{JournalEntry}
use Rattle.cube_journal.specs.declared.reply.Reply.{Reply}
use Rattle.cube_run.specs.RunRecords.{Sentence}
use Rattle.cube_run.specs.RunText.{IsReply}
use Rattle.cube_run.specs.SessionStates.{KeptWatch, Mode, SessionState, session_after}
use Rattle.cube_run.specs.SessionSteps.{SessionStep}
use Rattle.played_scripts.specs.PlayedRuns.{AreNumbered}
use Rattle.session_replies.specs.Modes.{mode_of}
use Rattle.session_replies.specs.StepParts.{IsStep}

abbrev pub grown : CorePast → Sentence → List CoreEntry → List JournalEntry → CorePast
grown past sentence now added = record {
  sentences = past.sentences ++ sentence ∷ [];
  files = past.files;
  own = now;
  entries = past.entries ++ added;
}

-- The step of a session at its next statement.
pub record IsStepOf (old new : CoreSession) (watch : Option KeptWatch) (sentence : Sentence)
    (added : List JournalEntry) (step : SessionStep) : Type 0 where
  pub session_is : step.session ≡ old.number
  pub number_is : step.number ≡ new.statements
  pub sentence_is : step.sentence ≡ sentence
  pub state_is : step.state ≡ state_of_session old watch
  pub entries_are : step.entries ≡ added

-- Its parts, with the entries by the step's own numbers.
pub parts-of : (old new : CoreSession) (watch : Option KeptWatch) (mode : Mode) (sentence : Sentence)
    (entries_at : ℕ → ℕ → List JournalEntry) (step : SessionStep) → mode_of old.mode ≡ mode
    → IsStepOf old new watch sentence (entries_at old.number new.statements) step
    → IsStep step mode sentence (entries_at step.session step.number)
parts-of old new watch mode sentence entries_at step was is = record {
  mode_is = ap (λ (s : SessionState). s.mode) is.state_is ∙ was;
  sentence_is = is.sentence_is;
  entries_are = is.entries_are ∙ sym (λ i. entries_at (is.session_is i) (is.number_is i));
}

module _ {S : Type 0} (fits : Opening → ℕ → ShardCall → Type 0) (stands : Opening → ℕ → ℕ → S → ShardView → Type 0)
    (says : CoreJob → ShardAnswer → JobOutcome → Type 0) (cells : List (CoreCell S)) (caller : ℕ) where
  -- A run goes on from what was behind with the statement.
  pub record IsRunWith (sentence : Sentence) (old : CoreSession) (own now : List CoreEntry) (added : List JournalEntry)
      (past : CorePast) (o : Opening) (given : RunScripts) (events : List CoreEvent) : Type 0 where
    pub turn : IsInTurn past
    pub counted : old.statements ≡ last_number past
    pub leaves : OwnCallsLeave fits stands says cells caller old.number own past.entries
    pub from : IsRunFrom fits stands says cells caller old.number (grown past sentence now added) o given events
    pub every : given.round_every ≡ unwrap_or old.round_every 0

  -- A statement is answered, by what its calls leave.
  pub record IsAnswered (sentence : Sentence) (old new : CoreSession) (own now : List CoreEntry)
      (added : List JournalEntry) (said : Reply) : Type 0 where
    pub left : LeavesBehind fits stands says cells caller old.number own now added
    pub counted : new.statements ≡ old.statements + 1
    pub numbered : AreNumbered new.statements new.statements added
    pub becomes : (watch : Option KeptWatch)
        → state_of_session new watch ≡ session_after (state_of_session old watch) sentence added
    pub answers : (watch : Option KeptWatch) (past : CorePast) (o : Opening) (given : RunScripts)
        (events : List CoreEvent) (step : SessionStep)
        → IsRunWith sentence old own now added past o given events → IsStepOf old new watch sentence added step
        → IsReply (record_of o given events) step said

  pub executes : (sentence : Sentence) (old new : CoreSession) (own now : List CoreEntry) (added : List JournalEntry)
      (said : Reply) → IsAnswered sentence old new own now added said
      → ExecutesInCore fits stands says cells caller sentence old own new now said
  executes sentence old new own now added said h past watch s count =
      let after = grown past sentence now added in
      let number : new.statements ≡ last_number past + 1 = h.counted ∙ ap (λ (n : ℕ). n + 1) count in
      let longer : last_number after ≡ new.statements = length-append past.sentences (sentence ∷ []) ∙ sym number in
      let one : IsOneMore past after sentence added = record {
        sentences = refl;
        files = λ n l. refl;
        own = longer-front past.own own now s.begins h.left.more;
        entries = refl;
        numbered = subst (λ (n : ℕ). AreNumbered n n added) number h.numbered;
      } in
      record {
        after = after;
        added = added;
        more = one;
        becomes = h.becomes watch;
        answers = λ o given events from same.
            h.answers watch past o given events (last_step old.number after (state_of_session old watch) sentence added)
            (record { turn = s.turn; counted = count; leaves = s.leaves; from = from; every = same })
            (record {
              session_is = refl;
              number_is = longer;
              sentence_is = refl;
              state_is = refl;
              entries_are = refl;
            });
        goes_on = h.left.more;
        stands_then = record {
          turn = in-turn-after past after sentence added one s.turn;
          begins = ([], append-nil now);
          leaves = h.left.entries past.entries s.leaves;
        };
      }
