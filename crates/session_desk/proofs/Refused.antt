-- A statement that leaves a Refused alone.
use Rattle.std.proofs.Common.{◌≡◌, ◌∙◌, ℕ, ◌+◌, List, [], ◌∷◌, Some, refl, sym, ap, subst}
use Rattle.cube_journal.specs.Counters.{JournalState}
use Rattle.cube_journal.specs.declared.journal_entry.JournalEntry.{JournalEntry}
use Rattle.cube_journal.specs.declared.journal_entry.JournalEntry.TheVariants as entry
use Rattle.cube_language.specs.declared.statement.Statement.{Statement}
use Rattle.cube_journal.specs.Refusals.{code}
use Rattle.cube_journal.specs.declared.refusal.Refusal.{Refusal}
use Rattle.cube_journal.specs.declared.refusal.Refusal.TheVariants as refusal
use Rattle.cube_journal.specs.declared.reply.Reply.TheVariants as reply
use Rattle.cube_journal.proofs.Orders.{state-with}
use Rattle.cube_run.specs.RunRecords.{Sentence, Says, SaysNone}
use Rattle.cube_run.specs.StepOutcomes.{refused_by_mode}
use Rattle.aosi_desk.specs.State.{state_of}
use Rattle.aosi_desk.specs.Desks.{DeskState, desk_with_entry}
use Rattle.session_replies.specs.Modes.{mode_of}
use Rattle.session_replies.proofs.Refusing.{refused_by_its_mode, spells_none, without_memory}
use Rattle.session_desk.specs.declared.session.Session.{Session}
use Rattle.session_desk.specs.AtDesk.{IsAtDesk, IsServing}
use Rattle.session_desk.specs.Executed.{ExecutesAtDesk}
use Rattle.session_desk.proofs.Agreeing.{mode_refusal, none_for}
use Rattle.session_desk.proofs.Growing.{grown}
use Rattle.session_desk.proofs.Staying.{Stays, at_stays, refused_still, stay_executes}
use Rattle.one_session.specs.Behind.{last_step}
use Rattle.session_desk.specs.Standing.{session_state}

-- The session's statement is refused, and counted.
pub record Refuses (code : ℕ) (desk : DeskState) (session : Session) (new_desk : DeskState) (now : Session) : Type 0 where
  pub desk_is : new_desk ≡ desk_with_entry desk (entry.Refused 1 now.statements code)
  pub mode_is : now.mode ≡ session.mode
  pub statements : now.statements ≡ session.statements + 1
  pub commits : now.commits ≡ session.commits
  pub every : now.round_every ≡ session.round_every

state_refused : (code : ℕ) (desk : DeskState) (session : Session) (new_desk : DeskState) (now : Session)
    → Refuses code desk session new_desk now → state_of new_desk.register ≡ state_of desk.register
state_refused code desk session new_desk now h =
    ap (λ (d : DeskState). state_of d.register) h.desk_is
    ∙ state-with desk.register.safe desk.register.journal (entry.Refused 1 now.statements code)

pub refused_stays : (code : ℕ) (desk : DeskState) (session : Session) (new_desk : DeskState) (now : Session)
    → Refuses code desk session new_desk now
    → Stays (entry.Refused 1 now.statements code ∷ []) (λ n. entry.Refused 1 n code) desk session new_desk now
refused_stays code desk session new_desk now h = record {
  desk_is = h.desk_is;
  mode_is = h.mode_is;
  statements = h.statements;
  commits = h.commits;
  every = h.every;
  part = refl;
  numbered = refl;
  owners = refl;
  no_cube = λ run. refl;
  still = refused_still 1 now.statements code;
  next = ap (λ (s : JournalState). s.ec) (state_refused code desk session new_desk now h);
}

pub at_refused : (code : ℕ) (desk : DeskState) (session : Session) (new_desk : DeskState) (now : Session)
    → IsAtDesk desk session → Refuses code desk session new_desk now → IsAtDesk new_desk now
at_refused code desk session new_desk now at h =
    at_stays (entry.Refused 1 now.statements code ∷ []) (λ n. entry.Refused 1 n code) desk session new_desk now at
    (refused_stays code desk session new_desk now h)
    (subst (λ (s : JournalState). IsServing s desk.register.safe (mode_of session.mode))
    (sym (state_refused code desk session new_desk now h)) at.serving)

-- A statement for which there is no memory.
pub executes_without_memory : (sentence : Sentence) (desk : DeskState) (session : Session) (new_desk : DeskState)
    (now : Session) → Refuses 16 desk session new_desk now
    → ExecutesAtDesk sentence desk session new_desk now (reply.Refused refusal.NoMemory)
executes_without_memory sentence desk session new_desk now h =
    let added : List JournalEntry = entry.Refused 1 now.statements 16 ∷ [] in
    stay_executes sentence added (λ n. entry.Refused 1 n 16) desk session new_desk now (reply.Refused refusal.NoMemory)
    (refused_stays 16 desk session new_desk now h)
    (none_for sentence now.statements desk.cubes added refl)
    (λ beginning past names done run stands more on step.
    without_memory run (last_step (grown past sentence added) (session_state session) sentence added)
    (mode_of session.mode) sentence step)

-- A text that spells no statement.
pub refuses_syntax : (at : ℕ) (desk : DeskState) (session : Session) (new_desk : DeskState) (now : Session)
    → Refuses 1 desk session new_desk now
    → ExecutesAtDesk (SaysNone at) desk session new_desk now
    (reply.Refused (refusal.Syntax (record { at = at })))
refuses_syntax at desk session new_desk now h =
    let added : List JournalEntry = entry.Refused 1 now.statements 1 ∷ [] in
    stay_executes (SaysNone at) added (λ n. entry.Refused 1 n 1) desk session new_desk now
    (reply.Refused (refusal.Syntax (record { at = at }))) (refused_stays 1 desk session new_desk now h)
    (none_for (SaysNone at) now.statements desk.cubes added refl)
    (λ beginning past names done run stands more on step.
    spells_none run (last_step (grown past (SaysNone at) added) (session_state session) (SaysNone at) added)
    (mode_of session.mode) at step)

-- A statement that the session's mode refuses.
pub refuses_by_mode : (s : Statement) (r : Refusal) (desk : DeskState) (session : Session) (new_desk : DeskState)
    (now : Session) → Refuses (code r) desk session new_desk now → refused_by_mode (mode_of session.mode) s ≡ Some r
    → ExecutesAtDesk (Says s) desk session new_desk now (reply.Refused r)
refuses_by_mode s r desk session new_desk now h is =
    let added : List JournalEntry = entry.Refused 1 now.statements (code r) ∷ [] in
    stay_executes (Says s) added (λ n. entry.Refused 1 n (code r)) desk session new_desk now
    (reply.Refused r) (refused_stays (code r) desk session new_desk now h)
    (none_for (Says s) now.statements desk.cubes added (mode_refusal (mode_of session.mode) s r now.statements is))
    (λ beginning past names done run stands more on step.
    refused_by_its_mode run (last_step (grown past (Says s) added) (session_state session) (Says s) added)
    (mode_of session.mode) s r step is)
