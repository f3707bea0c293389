-- What holds of a reply, by the ways in which a call may answer.
use Rattle.std.proofs.Common.{◌≡◌, ◌∙◌, ℕ, ◌+◌, refl, sym, ap, subst, arith}
use Rattle.cube_journal.specs.declared.journal_entry.JournalEntry.TheVariants as entry
use Rattle.cube_journal.specs.declared.refusal.Refusal.{Refusal}
use Rattle.cube_journal.specs.declared.refusal.Refusal.TheVariants as refusal
use Rattle.cube_journal.specs.declared.reply.Reply.{Reply}
use Rattle.cube_journal.specs.declared.reply.Reply.TheVariants as reply
use Rattle.cube_run.specs.RunRecords.{Sentence}
use Rattle.aosi_desk.specs.Desks.{DeskState, desk_with_entry}
use Rattle.session_desk.specs.declared.answered.Answered.{Answered}
use Rattle.session_desk.specs.declared.answered.Answered.TheVariants.{Replied, Stopped}
use Rattle.session_desk.specs.declared.session.Session.{Session}
use Rattle.session_desk.specs.Executed.{ExecutesAtDesk, IfReplied}
use Rattle.session_desk.specs.AtDesk.{IsAtDesk, IsServing, KeepsServing}
use Rattle.session_desk.specs.Executed.{OnStopped}
use Rattle.aosi_desk.specs.State.{state_of}
use Rattle.session_replies.specs.Modes.{mode_of}
use Rattle.session_desk.proofs.RoundEntries.{keeps_same}
use Rattle.session_desk.proofs.Refused.{Refuses, at_refused, executes_without_memory}

-- A session with one statement more.
abbrev pub counted : Session → Session
counted session = record {
  mode = session.mode;
  statements = session.statements + 1;
  commits = session.commits;
  round_every = session.round_every;
}

-- Where a refusal is answered, its entry stands.
pub if_refused : (result : Answered) (r : Refusal) (P : Reply → Type 0) (E : Type 0)
    → IfReplied result (λ said. said ≡ reply.Refused r) → IfReplied result (λ said. E) → (E → P (reply.Refused r))
    → IfReplied result P
if_refused (Replied said) r P E is added then = subst P (sym is) (then added)
if_refused Stopped r P E is added then = tt

-- The desk and the session after a refusal of the next statement.
pub refuses_next : (n : ℕ) (desk : DeskState) (session : Session) (middle new_desk : DeskState) → middle ≡ desk
    → new_desk ≡ desk_with_entry middle (entry.Refused 1 (session.statements + 1) n)
    → Refuses n desk session new_desk (counted session)
refuses_next n desk session middle new_desk same added = record {
  desk_is = added ∙ ap (λ (d : DeskState). desk_with_entry d (entry.Refused 1 (session.statements + 1) n)) same;
  mode_is = refl;
  statements = refl;
  commits = refl;
  every = refl;
}

-- The next statement is refused for want of memory.
pub memory_refused : (sentence : Sentence) (result : Answered) (desk : DeskState) (session : Session)
    (middle new_desk : DeskState) → middle ≡ desk
    → IfReplied result (λ said. said ≡ reply.Refused refusal.NoMemory)
    → IfReplied result (λ said. new_desk ≡ desk_with_entry middle (entry.Refused 1 (session.statements + 1) 16))
    → IfReplied result (ExecutesAtDesk sentence desk session new_desk (counted session))
memory_refused sentence result desk session middle new_desk same said added =
    if_refused result refusal.NoMemory (ExecutesAtDesk sentence desk session new_desk (counted session))
    (new_desk ≡ desk_with_entry middle (entry.Refused 1 (session.statements + 1) 16)) said added
    (λ a. executes_without_memory sentence desk session new_desk (counted session)
    (refuses_next 16 desk session middle new_desk same a))

pub if_replied : (result : Answered) (P Q : Reply → Type 0) → IfReplied result P → ((said : Reply) → P said → Q said)
    → IfReplied result Q
if_replied (Replied said) P Q h then = then said h
if_replied Stopped P Q h then = tt

-- A desk that still serves whom it served serves the session with one statement more.
pub at_kept : (desk new_desk : DeskState) (session : Session) → KeepsServing desk new_desk → IsAtDesk desk session
    → IsAtDesk new_desk (counted session)
at_kept desk new_desk session kept at = record {
  alone = kept.sessions ∙ at.alone;
  serving =
      subst (λ (safe : ℕ). IsServing (state_of new_desk.register) safe (mode_of session.mode)) (sym kept.safe)
      (kept.serving (mode_of session.mode) at.serving);
  counted = let few = at.counted in omega (arith, few);
}

pub at_refuse : (n : ℕ) (result : Answered) (desk : DeskState) (session : Session) (middle new_desk : DeskState)
    → middle ≡ desk → IsAtDesk desk session
    → IfReplied result (λ said. new_desk ≡ desk_with_entry middle (entry.Refused 1 (session.statements + 1) n))
    → OnStopped result (new_desk ≡ middle) → IsAtDesk new_desk (counted session)
at_refuse n (Replied said) desk session middle new_desk same at added stopped =
    at_refused n desk session new_desk (counted session) at (refuses_next n desk session middle new_desk same added)
at_refuse n Stopped desk session middle new_desk same at added stopped =
    at_kept desk new_desk session (keeps_same desk new_desk (stopped ∙ same)) at
