-- BEGIN.
use Rattle.std.proofs.Common.{◌≡◌, ◌∙◌, ℕ, ◌+◌, ◌≤◌, List, [], ◌∷◌, None, refl, sym, ap, subst, arith}
use Rattle.std.proofs.Math.Nat.{add-zero}
use Rattle.cube_language.specs.declared.statement.Statement.TheVariants.{Begin}
use Rattle.cube_journal.specs.declared.journal_entry.JournalEntry.{JournalEntry}
use Rattle.cube_journal.specs.declared.journal_entry.JournalEntry.TheVariants as entry
use Rattle.cube_journal.specs.declared.reply.Reply.TheVariants as reply
use Rattle.cube_run.specs.RunRecords.{Says}
use Rattle.cube_run.specs.RunTransactions.{epoch_done, operation_at}
use Rattle.cube_run.specs.SessionStates.{Mode, Idle, Open, mode_after}
use Rattle.one_session.specs.Behind.{last_step}
use Rattle.one_session.specs.Pasts.{last_number}
use Rattle.aosi_desk.specs.State.{after_begin, state_of, writer_snapshot}
use Rattle.aosi_desk.specs.Desks.{DeskState, desk_over}
use Rattle.session_replies.specs.Modes.{mode_of}
use Rattle.session_replies.proofs.Answers.{begun}
use Rattle.one_session.proofs.Entries.{longer_by_one}
use Rattle.session_desk.specs.declared.session.Session.{Session}
use Rattle.session_desk.specs.AtDesk.{change_epoch}
use Rattle.session_desk.specs.Executed.{ExecutesAtDesk}
use Rattle.session_desk.specs.Standing.{session_state}
use Rattle.session_desk.proofs.Agreeing.{none_for}
use Rattle.session_desk.proofs.Growing.{executes, grown}

-- A session begins a transaction at its desk.
pub record Begins (desk : DeskState) (session : Session) (new_desk : DeskState) (now : Session) : Type 0 where
  pub was : mode_of session.mode ≡ Idle
  pub desk_is : new_desk ≡ desk_over desk (after_begin desk.register 1 now.statements (writer_snapshot (state_of desk.register)))
  pub mode_is : mode_of now.mode ≡ Open (writer_snapshot (state_of desk.register))
  pub statements : now.statements ≡ session.statements + 1
  pub commits : now.commits ≡ session.commits
  pub every : now.round_every ≡ session.round_every

abbrev begin_entries : DeskState → Session → List JournalEntry
begin_entries desk now =
    let s = state_of desk.register in entry.Begin 1 now.statements s.ec s.pending ∷ []

pub begin_executes : (desk : DeskState) (session : Session) (new_desk : DeskState) (now : Session)
    → Begins desk session new_desk now
    → ExecutesAtDesk (Says Begin) desk session new_desk now (reply.Begun (state_of desk.register).ec)
begin_executes desk session new_desk now b =
    let s = state_of desk.register in
    let entries = begin_entries desk now in
    executes (Says Begin) entries desk session new_desk now (reply.Begun s.ec)
    (record {
      desk_is = b.desk_is;
      statements = b.statements;
      every = b.every;
      becomes = (λ i. record {
        mode = (b.mode_is ∙ ap (λ (mode : Mode). mode_after mode entries) (sym b.was)) i;
        watch = None;
        commits = (b.commits ∙ sym (add-zero session.commits)) i;
      });
      own = (omega arith, omega arith, tt);
      owners = refl;
      no_cube = λ run. refl;
      agrees = none_for (Says Begin) now.statements desk.cubes entries refl;
      epochs =
          subst (λ (mode : Mode). change_epoch s mode
          ≤ change_epoch (state_of new_desk.register) (mode_of now.mode)) (sym b.was)
          (subst (λ (mode : Mode). s.ec ≤ change_epoch (state_of new_desk.register) mode) (sym b.mode_is) (omega arith));
      no_change = λ catalog number file.
          ap (λ (mode : Mode). operation_at number (epoch_done mode entries) None) b.was;
    })
    (λ beginning past names done run h more on.
    let after = grown past (Says Begin) entries in
    let number : now.statements ≡ last_number after =
    b.statements ∙ ap (λ (n : ℕ). n + 1) (sym h.number) ∙ sym (longer_by_one past after (Says Begin) entries more)
    in
    begun run (last_step after (session_state session) (Says Begin) entries) s.ec s.pending (record {
      mode_is = b.was;
      sentence_is = refl;
      entries_are = (λ i. entry.Begin 1 (number i) s.ec s.pending ∷ []);
    }))
