-- A statement that is refused and leaves nothing but that.
use mathlib.Core.List.{IsPrefix}
use Rattle.std.proofs.Common.{◌≡◌, ℕ, ◌+◌, List, [], ◌∷◌, Option, None, Some, refl, sym, subst, arith}
use Rattle.core_events.specs.Events.{Opening}
use Rattle.core_events.specs.Jobs.{CoreJob, JobOutcome}
use Rattle.core_events.specs.ShardView.{ShardView}
use Rattle.core_program.specs.CoreFits.{CoreEntry}
use Rattle.core_records.specs.CoreRecords.{record_of}
use Rattle.core_states.proofs.Growing.{executes, parts-of}
use Rattle.core_states.proofs.LeftCalls.{left-then}
use Rattle.core_states.specs.ExecutedInCore.{ExecutesInCore}
use Rattle.core_states.specs.LeftBehind.{GoOnByCalls, IsPlainCall, LeavesBehind}
use Rattle.core_states.specs.declared.session.CoreSession.{CoreSession}
use Rattle.cube_core.specs.declared.cell.CoreCell.{CoreCell}
use Rattle.cube_core.specs.declared.shard.ShardAnswer.{ShardAnswer}
use Rattle.cube_core.specs.declared.shard.ShardCall.{ShardCall}
use Rattle.cube_journal.specs.Refusals.{code}
use Rattle.cube_journal.specs.declared.journal_entry.JournalEntry.{JournalEntry}
use Rattle.cube_journal.specs.declared.journal_entry.JournalEntry.TheVariants as entry
use Rattle.cube_journal.specs.declared.refusal.Refusal.{Refusal}
use Rattle.cube_journal.specs.declared.refusal.Refusal.TheVariants as refusal
use Rattle.cube_journal.specs.declared.reply.Reply.{Reply}
use Rattle.cube_journal.specs.declared.reply.Reply.TheVariants as reply
use Rattle.cube_language.specs.declared.statement.Statement.{Statement}
use Rattle.cube_language.specs.declared.statement.Statement.TheVariants.{Watch, ShowWatch}
use Rattle.cube_run.specs.RunRecords.{RunRecord, Sentence, Says, SaysNone}
use Rattle.cube_run.specs.RunText.{IsReply}
use Rattle.cube_run.specs.SessionStates.{KeptWatch, Mode, Idle, Open, Aborted, mode_after, watch_after}
use Rattle.cube_run.specs.SessionSteps.{SessionStep}
use Rattle.cube_run.specs.StepOutcomes.{refused_by_mode}
use Rattle.session_desk.specs.Executed.{IfReplied, OnStopped}
use Rattle.session_desk.specs.declared.answered.Answered.{Answered}
use Rattle.session_desk.specs.declared.answered.Answered.TheVariants.{Replied, Stopped}
use Rattle.session_replies.proofs.Refusing.{refused_by_its_mode, spells_none, without_memory}
use Rattle.session_replies.specs.Modes.{mode_of}
use Rattle.session_replies.specs.StepParts.{IsStep}

-- A session with one statement more.
abbrev pub counted : CoreSession → CoreSession
counted session = record {
  number = session.number;
  mode = session.mode;
  statements = session.statements + 1;
  commits = session.commits;
  round_every = session.round_every;
}

-- A refusal leaves the mode and the watch as they are.
mode-kept : (mode : Mode) (i j n : ℕ) → mode ≡ mode_after mode (entry.Refused i j n ∷ [])
mode-kept Idle i j n = refl
mode-kept (Open writer) i j n = refl
mode-kept (Aborted epoch) i j n = refl

watch-kept : (watch : Option KeptWatch) (sentence : Sentence) (i j n : ℕ)
    → watch ≡ watch_after watch sentence (entry.Refused i j n ∷ [])
watch-kept None (SaysNone at) i j n = refl
watch-kept None (Says (Watch items cube conds group)) i j n = refl
watch-kept None (Says s) i j n = refl
watch-kept (Some kept) (SaysNone at) i j n = refl
watch-kept (Some kept) (Says ShowWatch) i j n = refl
watch-kept (Some kept) (Says s) i j n = refl

module _ {S : Type 0} (fits : Opening → ℕ → ShardCall → Type 0) (stands : Opening → ℕ → ℕ → S → ShardView → Type 0)
    (says : CoreJob → ShardAnswer → JobOutcome → Type 0) (cells : List (CoreCell S)) (caller : ℕ)
    (session : CoreSession) (own now : List CoreEntry) where
  abbrev pub LeavesRefused : ℕ → Type 0
  LeavesRefused n = LeavesBehind fits stands says cells caller session.number own now
      (entry.Refused session.number (session.statements + 1) n ∷ [])

  abbrev pub Executes : Sentence → Reply → Type 0
  Executes sentence said = ExecutesInCore fits stands says cells caller sentence session own (counted session) now said

  pub refuses : (sentence : Sentence) (n : ℕ) (said : Reply) → LeavesRefused n
      → ((run : RunRecord) (step : SessionStep)
      → IsStep step (mode_of session.mode) sentence (entry.Refused step.session step.number n ∷ [])
      → IsReply run step said)
      → Executes sentence said
  refuses sentence n said left answers =
      let number : ℕ = session.statements + 1 in
      let added : List JournalEntry = entry.Refused session.number number n ∷ [] in
      let none : session.commits ≡ session.commits + 0 = omega arith in
      executes fits stands says cells caller sentence session (counted session) own now added said (record {
        left = left;
        counted = refl;
        numbered = (omega arith, omega arith, tt);
        becomes = λ watch i. record {
          mode = mode-kept (mode_of session.mode) session.number number n i;
          watch = watch-kept watch sentence session.number number n i;
          commits = none i;
        };
        answers = λ watch past o given events step in_run is.
            answers (record_of o given events) step
            (parts-of session (counted session) watch (mode_of session.mode) sentence
            (λ i j. entry.Refused i j n ∷ []) step refl is);
      })

  pub refuses-memory : (sentence : Sentence) → LeavesRefused 16 → Executes sentence (reply.Refused refusal.NoMemory)
  refuses-memory sentence left =
      refuses sentence 16 (reply.Refused refusal.NoMemory) left
      (λ run step is. without_memory run step (mode_of session.mode) sentence is)

  pub refuses-syntax : (at : ℕ) → LeavesRefused 1
      → Executes (SaysNone at) (reply.Refused (refusal.Syntax (record { at = at })))
  refuses-syntax at left =
      refuses (SaysNone at) 1 (reply.Refused (refusal.Syntax (record { at = at }))) left
      (λ run step is. spells_none run step (mode_of session.mode) at is)

  pub refuses-by-mode : (s : Statement) (r : Refusal) → refused_by_mode (mode_of session.mode) s ≡ Some r
      → LeavesRefused (code r) → Executes (Says s) (reply.Refused r)
  refuses-by-mode s r may left =
      refuses (Says s) (code r) (reply.Refused r) left
      (λ run step is. refused_by_its_mode run step (mode_of session.mode) s r is may)

  -- Where a refusal is answered, its entry stands.
  pub if-refused : (result : Answered) (r : Refusal) (P : Reply → Type 0)
      → IfReplied result (λ said. said ≡ reply.Refused r) → IfReplied result (λ said. LeavesRefused (code r))
      → (LeavesRefused (code r) → P (reply.Refused r)) → IfReplied result P
  if-refused (Replied said) r P is left then = subst P (sym is) (then left)
  if-refused Stopped r P is left then = tt

module _ {S : Type 0} (fits : Opening → ℕ → ShardCall → Type 0) (stands : Opening → ℕ → ℕ → S → ShardView → Type 0)
    (says : CoreJob → ShardAnswer → JobOutcome → Type 0) (cells : List (CoreCell S)) (caller session : ℕ)
    (own now : List CoreEntry) where
  -- Whether it is answered or not, the calls are plain.
  pub either-plain : (added : List JournalEntry) (result : Answered)
      → IfReplied result (λ said. LeavesBehind fits stands says cells caller session own now added)
      → OnStopped result (LeavesBehind fits stands says cells caller session own now [])
      → GoOnByCalls fits stands says cells caller session IsPlainCall own now
  either-plain added (Replied said) left stopped = left.plain
  either-plain added Stopped left stopped = stopped.plain

  -- Whether it is answered or not, own calls go on.
  pub either-more : (added : List JournalEntry) (result : Answered)
      → IfReplied result (λ said. LeavesBehind fits stands says cells caller session own now added)
      → OnStopped result (LeavesBehind fits stands says cells caller session own now [])
      → IsPrefix own now
  either-more added (Replied said) left stopped = left.more
  either-more added Stopped left stopped = stopped.more

  -- After calls that leave nothing, and then a refusal.
  pub then-refused : (mid : List CoreEntry) (added : List JournalEntry) (result : Answered)
      → LeavesBehind fits stands says cells caller session own mid []
      → IfReplied result (λ said. LeavesBehind fits stands says cells caller session mid now added)
      → IfReplied result (λ said. LeavesBehind fits stands says cells caller session own now added)
  then-refused mid added (Replied said) first left =
      left-then fits stands says cells caller session own mid now [] added first left
  then-refused mid added Stopped first left = tt

  pub then-stopped : (mid : List CoreEntry) (result : Answered)
      → LeavesBehind fits stands says cells caller session own mid []
      → OnStopped result (LeavesBehind fits stands says cells caller session mid now [])
      → OnStopped result (LeavesBehind fits stands says cells caller session own now [])
  then-stopped mid (Replied said) first stopped = tt
  then-stopped mid Stopped first stopped = left-then fits stands says cells caller session own mid now [] [] first stopped
