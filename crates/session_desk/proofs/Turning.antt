-- What a statement does to the transaction of its session.
use Rattle.std.proofs.Common.{◌≡◌, ◌∙◌, ℕ, ◌≤◌, ◌==◌, Option, None, Some, [], ◌∷◌, refl, sym, ap, subst}
use Rattle.cube_language.specs.declared.decl.Decl.{Decl}
use Rattle.cube_values.specs.declared.snapshot.Snapshot.{Snapshot}
use Rattle.cube_journal.specs.declared.journal_entry.AbortCause.{AbortCause}
use Rattle.cube_journal.specs.declared.journal_entry.JournalEntry.TheVariants as entry
use Rattle.cube_run.specs.SessionStates.{Mode, Idle, Open, Aborted}
use Rattle.aosi_desk.specs.State.{after_abort, after_begin, after_commit, held_epoch, state_of}
use Rattle.aosi_desk.specs.Desks.{DeskState, desk_after_answer, desk_over}
use Rattle.aosi_desk.specs.declared.cube.CubeAnswer.{CubeAnswer}
use Rattle.aosi_desk.specs.declared.cube.CubeAnswer.TheVariants.{Created, Exists, TooMany}
use Rattle.session_replies.specs.Modes.{mode_of}
use Rattle.session_replies.specs.declared.mode.SessionMode.{SessionMode}
use Rattle.session_desk.specs.declared.session.Session.{Session}
use Rattle.session_desk.specs.AtDesk.{IsAtDesk, IsOpenAt, desk_with_entries}
use Rattle.session_desk.specs.Moves.{KeepsOpen, MovesOn, epoch_open_in, is_committed_at}
use Rattle.session_desk.proofs.Finishing.{held_open, open_of}
use Rattle.session_desk.proofs.Moving.{moves_by, moves_refused, moves_then, or_none, same_test}

-- ---- what is open

pub keeps_itself : (next : ℕ) (mode : Mode) → KeepsOpen next mode mode
keeps_itself next Idle = tt
keeps_itself next (Open writer) = refl
keeps_itself next (Aborted epoch) = tt

pub begins_open : (next : ℕ) (mode : Mode) (writer : Snapshot) → mode ≡ Idle → writer.epoch ≡ next
    → KeepsOpen next mode (Open writer)
begins_open next mode writer idle is = subst (λ (m : Mode). KeepsOpen next m (Open writer)) (sym idle) is

-- ---- what moves

pub moves_from : (committed : Option ℕ) (desk middle new_desk : DeskState) → middle ≡ desk
    → MovesOn committed middle new_desk → MovesOn committed desk new_desk
moves_from committed desk middle new_desk same m = subst (λ (d : DeskState). MovesOn committed d new_desk) same m

pub moves_begun : (n : ℕ) (writer : Snapshot) (desk new_desk : DeskState)
    → new_desk ≡ desk_over desk (after_begin desk.register 1 n writer) → MovesOn None desk new_desk
moves_begun n writer desk new_desk h =
    moves_by None desk new_desk (entry.Begin 1 n writer.epoch writer.deps ∷ []) h (λ epoch. refl)

pub moves_aborted : (n : ℕ) (cause : AbortCause) (desk new_desk : DeskState)
    → new_desk ≡ desk_over desk (after_abort desk.register 1 n cause) → MovesOn None desk new_desk
moves_aborted n cause desk new_desk h =
    moves_by None desk new_desk (entry.Aborted 1 n (held_epoch (state_of desk.register) 1) cause ∷ []) h (λ epoch. refl)

-- A cube that is made takes an epoch, and commits none.
pub moves_answered : (n : ℕ) (d : Decl) (answer : CubeAnswer) (desk new_desk : DeskState)
    → new_desk ≡ desk_after_answer desk 1 n d answer → MovesOn None desk new_desk
moves_answered n d (Created epoch place) desk new_desk h =
    let middle : DeskState = desk_with_entries desk (entry.Cube 1 n epoch ∷ []) in
    let made = moves_by None desk middle (entry.Cube 1 n epoch ∷ []) refl (λ epoch. refl) in
    record {
      next =
          subst (λ (x : DeskState). (state_of desk.register).ec ≤ (state_of x.register).ec) (sym h) made.next;
      commits = λ epoch. ap (λ (x : DeskState). is_committed_at x epoch) h ∙ made.commits epoch;
    }
moves_answered n d Exists desk new_desk h = moves_refused n 19 desk new_desk h
moves_answered n d TooMany desk new_desk h = moves_refused n 21 desk new_desk h

-- The transaction that was open is committed.
pub moves_committed : (n : ℕ) (desk : DeskState) (session : Session) (epoch : ℕ) (middle new_desk : DeskState)
    → IsAtDesk desk session → IsOpenAt session.mode epoch
    → middle ≡ desk_over desk (after_commit desk.register 1 n) → MovesOn None middle new_desk
    → MovesOn (epoch_open_in (mode_of session.mode)) desk new_desk
moves_committed n desk session epoch middle new_desk at is middle_is m =
    let o = open_of session.mode epoch is in
    let one : Some epoch ≡ epoch_open_in (mode_of session.mode) =
    ap (λ (e : ℕ). Some e) o.epoch_is ∙ sym (ap (λ (mode : SessionMode). epoch_open_in (mode_of mode)) o.mode_is)
    in
    let ended : middle ≡ desk_with_entries desk (entry.Committed 1 n epoch ∷ []) =
    middle_is
    ∙ ap (λ (e : ℕ). desk_with_entries desk (entry.Committed 1 n e ∷ [])) (held_open desk session epoch at o)
    in
    subst (λ (committed : Option ℕ). MovesOn committed desk new_desk) one
    (moves_then (Some epoch) desk middle new_desk
    (moves_by (Some epoch) desk middle (entry.Committed 1 n epoch ∷ []) ended
    (λ e. or_none (epoch == e) ∙ same_test epoch e)) m)
