-- A SHOW EPOCHS tells the counters of the journal before it.
use Rattle.std.proofs.Common.{◌≡◌, ◌∙◌, ℕ, ◌+◌, ◌==◌, true, ◌||◌, ◌&&◌, nat_le, List, [], ◌∷◌, ◌++◌, Option, Some, None, refl, sym, subst, arith, eq-eqb}
use Rattle.std.proofs.lemmas.Bool.Decides.{nat_tests}
use Rattle.core_program.specs.ClientCalls.{desk_entry}
use Rattle.core_cells.specs.declared.desk.DeskAnswer.TheVariants as answer
use Rattle.core_cells.specs.declared.desk.DeskCall.TheVariants as call
use Rattle.core_program.specs.Knowing.{IsClientOf, IsSessionOf}
use Rattle.core_events.specs.Events.{Opening}
use Rattle.core_events.specs.Jobs.{CoreJob, JobOutcome}
use Rattle.core_events.specs.ShardView.{ShardView}
use Rattle.core_serial.specs.Journals.{journal_of}
use Rattle.core_states.specs.CorePasts.{last_number}
use Rattle.core_program.specs.CoreFits.{CoreEntry}
use Rattle.core_records.specs.CoreRecords.{record_of}
use Rattle.core_states.proofs.Growing.{executes, parts-of}
use Rattle.core_states.proofs.LeftCalls.{left-by-call}
use Rattle.core_states.proofs.NotedCounters.{noted-counters}
use Rattle.core_states.proofs.Refused.{counted}
use Rattle.core_states.specs.ExecutedInCore.{ExecutesInCore}
use Rattle.core_states.specs.declared.session.CoreSession.{CoreSession}
use Rattle.cube_core.specs.declared.cell.CoreCell.{CoreCell}
use Rattle.cube_core.specs.declared.shard.ShardAnswer.{ShardAnswer}
use Rattle.cube_core.specs.declared.shard.ShardCall.{ShardCall}
use Rattle.cube_journal.specs.Counters.{counters}
use Rattle.cube_journal.specs.declared.counters.Counters.{Counters}
use Rattle.cube_journal.specs.declared.journal_entry.JournalEntry.{JournalEntry}
use Rattle.cube_journal.specs.declared.journal_entry.JournalEntry.TheVariants as entry
use Rattle.cube_journal.specs.declared.note.Note.TheVariants as note
use Rattle.cube_journal.specs.declared.reply.Reply.TheVariants as reply
use Rattle.cube_language.specs.declared.statement.Statement.TheVariants.{ShowEpochs}
use Rattle.cube_run.specs.RunRecords.{Says}
use Rattle.cube_run.specs.RunText.{IsReply}
use Rattle.cube_run.specs.SessionStates.{KeptWatch, Mode, Idle, Open, Aborted, first_holder, mode_after, second_holder, watch_after}
use Rattle.cube_run.specs.SessionSteps.{is_from, journal_before}
use Rattle.session_replies.proofs.Answers.{shown}
use Rattle.session_replies.specs.Modes.{mode_of}

show-keeps-watch : (watch : Option KeptWatch) (entries : List JournalEntry)
    → watch ≡ watch_after watch (Says ShowEpochs) entries
show-keeps-watch None entries = refl
show-keeps-watch (Some kept) entries = refl

show-keeps-mode : (mode : Mode) (i j : ℕ) → mode ≡ mode_after mode (entry.Show i j ∷ [])
show-keeps-mode Idle i j = refl
show-keeps-mode (Open writer) i j = refl
show-keeps-mode (Aborted epoch) i j = refl

same-le : (n : ℕ) → nat_le n n ≡ true
same-le n = grind (arith, nat_tests)

-- An entry of a session's own number and of a statement is one from that statement on.
pub own-le : (i j : ℕ) → (((i == i) || ((i == first_holder i) || (i == second_holder i))) && nat_le j j) ≡ true
own-le i j =
    (λ k. (eq-eqb i i refl k || ((i == first_holder i) || (i == second_holder i))) && nat_le j j) ∙ same-le j

is-own-show : (i j : ℕ) → is_from i j (entry.Show i j) ≡ true
is-own-show i j = own-le i j

module _ {S : Type 0} (fits : Opening → ℕ → ShardCall → Type 0) (stands : Opening → ℕ → ℕ → S → ShardView → Type 0)
    (says : CoreJob → ShardAnswer → JobOutcome → Type 0) (cells : List (CoreCell S)) (caller : ℕ)
    (session : CoreSession) (acts : IsClientOf fits stands says cells caller session.number)
    (of_run : IsSessionOf fits stands says cells session.number) (own now : List CoreEntry) where
  pub shows : (found : Counters)
      → now ≡ own ++ desk_entry caller (call.Note (note.Show session.number (session.statements + 1)))
      (answer.Counted found) ∷ []
      → ExecutesInCore fits stands says cells caller (Says ShowEpochs) session own (counted session) now
      (reply.Epochs found)
  shows found is =
      let number : ℕ = session.statements + 1 in
      let added : List JournalEntry = entry.Show session.number number ∷ [] in
      let none : session.commits ≡ session.commits + 0 = omega arith in
      executes fits stands says cells caller (Says ShowEpochs) session (counted session) own now added
      (reply.Epochs found) (record {
        left =
            left-by-call fits stands says cells caller session.number acts own now 0
            (call.Note (note.Show session.number number)) (answer.Counted found) is (λ o log run es later are. tt) (λ k. tt);
        counted = refl;
        numbered = (omega arith, omega arith, tt);
        becomes = λ watch i. record {
          mode = show-keeps-mode (mode_of session.mode) session.number number i;
          watch = show-keeps-watch watch added i;
          commits = none i;
        };
        answers = λ watch past o given events step r at.
            let count = r.counted in
            let told : found ≡ counters o.safe (journal_before session.number number (journal_of o events)) =
            noted-counters fits stands says cells caller session.number acts of_run own now
            (note.Show session.number number) found is number (last_number past) past.entries r.leaves r.turn
            (omega (arith, count)) (is-own-show session.number number) o r.from.log events r.from.run
            in
            let session_is = at.session_is in
            let number_is = at.number_is in
            subst (λ (x : Counters). IsReply (record_of o given events) step (reply.Epochs x))
            (sym (told
            ∙ sym (λ i. counters o.safe (journal_before (session_is i) (number_is i) (journal_of o events)))))
            (shown (record_of o given events) step (mode_of session.mode)
            (parts-of session (counted session) watch (mode_of session.mode) (Says ShowEpochs)
            (λ i j. entry.Show i j ∷ []) step refl at));
      })
