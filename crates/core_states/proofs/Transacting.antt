-- A BEGIN, and a ROLLBACK of a transaction that a fault ended.
use Rattle.std.proofs.Common.{◌≡◌, ◌∙◌, ℕ, ◌+◌, List, [], ◌∷◌, ◌++◌, Option, Some, None, refl, sym, ap, arith}
use Rattle.std.proofs.lemmas.Option.{none-some}
use Rattle.core_program.specs.ClientCalls.{desk_entry}
use Rattle.core_cells.specs.declared.desk.DeskAnswer.TheVariants as answer
use Rattle.core_cells.specs.declared.desk.DeskCall.TheVariants as call
use Rattle.core_program.specs.Knowing.{IsClientOf}
use Rattle.core_events.specs.Clients.{writer_at}
use Rattle.core_events.specs.Events.{Opening}
use Rattle.core_events.specs.Jobs.{CoreJob, JobOutcome}
use Rattle.core_events.specs.ShardView.{ShardView}
use Rattle.core_program.specs.CoreFits.{CoreEntry}
use Rattle.core_records.specs.CoreRecords.{record_of}
use Rattle.core_states.proofs.Growing.{executes, parts-of}
use Rattle.core_states.proofs.LeftCalls.{left-by-call}
use Rattle.core_states.specs.ExecutedInCore.{ExecutesInCore}
use Rattle.core_states.specs.declared.session.CoreSession.{CoreSession}
use Rattle.cube_core.specs.declared.cell.CoreCell.{CoreCell}
use Rattle.cube_core.specs.declared.shard.ShardAnswer.{ShardAnswer}
use Rattle.cube_core.specs.declared.shard.ShardCall.{ShardCall}
use Rattle.cube_journal.specs.declared.counters.Counters.{Counters}
use Rattle.cube_journal.specs.declared.journal_entry.JournalEntry.{JournalEntry}
use Rattle.cube_journal.specs.declared.journal_entry.JournalEntry.TheVariants as entry
use Rattle.cube_journal.specs.declared.note.Note.TheVariants as note
use Rattle.cube_journal.specs.declared.refusal.Refusal.TheVariants as refusal
use Rattle.cube_journal.specs.declared.reply.Reply.TheVariants as reply
use Rattle.cube_language.specs.declared.statement.Statement.TheVariants.{Begin, Rollback}
use Rattle.cube_run.specs.RunRecords.{Says}
use Rattle.cube_run.specs.SessionStates.{KeptWatch, Mode, Idle, Open, Aborted, mode_after, watch_after}
use Rattle.cube_run.specs.StepOutcomes.{refused_by_mode}
use Rattle.cube_values.specs.declared.snapshot.Snapshot.{Snapshot}
use Rattle.session_replies.proofs.Answers.{begun, cleared}
use Rattle.session_replies.specs.Modes.{mode_of}
use Rattle.session_replies.specs.declared.mode.SessionMode.{SessionMode}
use Rattle.session_replies.specs.declared.mode.SessionMode.TheVariants as variant

-- A BEGIN and a ROLLBACK leave a watch as it is.
begin-keeps-watch : (watch : Option KeptWatch) (entries : List JournalEntry) → watch ≡ watch_after watch (Says Begin) entries
begin-keeps-watch None entries = refl
begin-keeps-watch (Some kept) entries = refl

pub rollback-keeps-watch : (watch : Option KeptWatch) (entries : List JournalEntry)
    → watch ≡ watch_after watch (Says Rollback) entries
rollback-keeps-watch None entries = refl
rollback-keeps-watch (Some kept) entries = refl

-- A session that may begin a transaction has none.
pub begins-idle : (mode : SessionMode) → refused_by_mode (mode_of mode) Begin ≡ None → mode ≡ variant.Idle
begins-idle variant.Idle may = refl
begins-idle (variant.Open writer) may = absurd (none-some refusal.TransactionOpen (sym may))
begins-idle (variant.Aborted epoch) may = absurd (none-some refusal.TransactionAborted (sym may))

-- The session with one statement more and another mode.
abbrev pub in_mode : SessionMode → CoreSession → CoreSession
in_mode mode session = record {
  number = session.number;
  mode = mode;
  statements = session.statements + 1;
  commits = session.commits;
  round_every = session.round_every;
}

module _ {S : Type 0} (fits : Opening → ℕ → ShardCall → Type 0) (stands : Opening → ℕ → ℕ → S → ShardView → Type 0)
    (says : CoreJob → ShardAnswer → JobOutcome → Type 0) (cells : List (CoreCell S)) (caller : ℕ)
    (session : CoreSession) (acts : IsClientOf fits stands says cells caller session.number)
    (own now : List CoreEntry) where
  pub begins : (writer : Snapshot) → session.mode ≡ variant.Idle
      → now ≡ own ++ desk_entry caller (call.OpenWrite session.number (session.statements + 1)) (answer.Opened writer) ∷ []
      → writer ≡ writer_at writer.epoch writer.deps
      → ExecutesInCore fits stands says cells caller (Says Begin) session own (in_mode (variant.Open writer) session) now
      (reply.Begun writer.epoch)
  begins writer was is own_writer =
      let added : List JournalEntry =
      entry.Begin session.number (session.statements + 1) writer.epoch writer.deps ∷ []
      in
      let idle : mode_of session.mode ≡ Idle = ap mode_of was in
      let none : session.commits ≡ session.commits + 0 = omega arith in
      executes fits stands says cells caller (Says Begin) session (in_mode (variant.Open writer) session) own now added
      (reply.Begun writer.epoch) (record {
        left =
            left-by-call fits stands says cells caller session.number acts own now 0
            (call.OpenWrite session.number (session.statements + 1)) (answer.Opened writer) is
            (λ o log run es later are. tt) (λ k. tt);
        counted = refl;
        numbered = (omega arith, omega arith, tt);
        becomes = λ watch i. record {
          mode = (ap (λ (w : Snapshot). Open w) own_writer ∙ sym (ap (λ (m : Mode). mode_after m added) idle)) i;
          watch = begin-keeps-watch watch added i;
          commits = none i;
        };
        answers = λ watch past o given events step in_run at.
            begun (record_of o given events) step writer.epoch writer.deps
            (parts-of session (in_mode (variant.Open writer) session) watch Idle (Says Begin)
            (λ i j. entry.Begin i j writer.epoch writer.deps ∷ []) step idle at);
      })

  pub clears : (epoch : ℕ) (shown : Counters) → session.mode ≡ variant.Aborted epoch
      → now ≡ own ++ desk_entry caller (call.Note (note.Cleared session.number (session.statements + 1)))
      (answer.Counted shown) ∷ []
      → ExecutesInCore fits stands says cells caller (Says Rollback) session own (in_mode variant.Idle session) now
      (reply.RolledBack epoch)
  clears epoch shown was is =
      let added : List JournalEntry = entry.Cleared session.number (session.statements + 1) ∷ [] in
      let aborted : mode_of session.mode ≡ Aborted epoch = ap mode_of was in
      let none : session.commits ≡ session.commits + 0 = omega arith in
      executes fits stands says cells caller (Says Rollback) session (in_mode variant.Idle session) own now added
      (reply.RolledBack epoch) (record {
        left =
            left-by-call fits stands says cells caller session.number acts own now 0
            (call.Note (note.Cleared session.number (session.statements + 1))) (answer.Counted shown) is
            (λ o log run es later are. tt) (λ k. tt);
        counted = refl;
        numbered = (omega arith, omega arith, tt);
        becomes = λ watch i. record {
          mode = sym (ap (λ (m : Mode). mode_after m added) aborted) i;
          watch = rollback-keeps-watch watch added i;
          commits = none i;
        };
        answers = λ watch past o given events step in_run at.
            cleared (record_of o given events) step epoch
            (parts-of session (in_mode variant.Idle session) watch (Aborted epoch) (Says Rollback)
            (λ i j. entry.Cleared i j ∷ []) step aborted at);
      })
