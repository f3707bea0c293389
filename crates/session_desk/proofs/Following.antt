-- What a desk has after the round that follows a commit.
use Rattle.std.proofs.Common.{◌≡◌, ◌∙◌, ℕ, Bool, true, false, [], ◌∷◌, ◌++◌, sym, ap, subst}
use Rattle.std.specs.Bool.{OnTrue}
use Rattle.cube_journal.specs.Counters.{JournalState}
use Rattle.cube_journal.specs.declared.journal_entry.JournalEntry.TheVariants as entry
use Rattle.aosi_desk.specs.State.{state_of}
use Rattle.aosi_desk.specs.Desks.{DeskState, desk_with_entry}
use Rattle.session_desk.specs.AtDesk.{IsServing, KeepsServing, desk_with_entries}
use Rattle.session_desk.specs.Entries.{HasFollowed, HasNotes, is_done, round_entries, wants_memory}
use Rattle.session_desk.proofs.RoundEntries.{desk_more, keeps, round_keeps, state_more}

pub notes_of : (statement epoch : ℕ) (desk middle new_desk : DeskState)
    → middle ≡ desk_with_entry desk (entry.Flushed 1 statement)
    → new_desk ≡ desk_with_entry middle (entry.Purged 1 statement epoch) → HasNotes statement desk new_desk
notes_of statement epoch desk middle new_desk flushed purged = record {
  epoch = epoch;
  desk_is =
      purged
      ∙ ap (λ (d : DeskState). desk_with_entries d (entry.Purged 1 statement epoch ∷ [])) flushed
      ∙ desk_more desk (entry.Flushed 1 statement ∷ []) (entry.Purged 1 statement epoch ∷ []);
}

pub round_followed : (statement : ℕ) (desk middle new_desk : DeskState)
    → middle ≡ desk_with_entries desk (round_entries (state_of desk.register)) → HasNotes statement middle new_desk
    → HasFollowed statement true desk new_desk
round_followed statement desk middle new_desk made n = record {
  added =
      round_entries (state_of desk.register)
      ++ entry.Flushed 1 statement ∷ entry.Purged 1 statement n.epoch ∷ [];
  desk_is =
      n.desk_is
      ∙ ap (λ (d : DeskState).
      desk_with_entries d (entry.Flushed 1 statement ∷ entry.Purged 1 statement n.epoch ∷ [])) made
      ∙ desk_more desk (round_entries (state_of desk.register))
      (entry.Flushed 1 statement ∷ entry.Purged 1 statement n.epoch ∷ []);
  follows = is_done n.epoch;
}

pub round_followed_if : (result : Bool) (statement : ℕ) (desk middle new_desk : DeskState)
    → middle ≡ desk_with_entries desk (round_entries (state_of desk.register))
    → OnTrue result (HasNotes statement middle new_desk) → OnTrue result (HasFollowed statement true desk new_desk)
round_followed_if true statement desk middle new_desk made n =
    round_followed statement desk middle new_desk made n
round_followed_if false statement desk middle new_desk made n = tt

pub refusal_followed : (statement : ℕ) (desk middle new_desk : DeskState) → middle ≡ desk
    → new_desk ≡ desk_with_entry middle (entry.Refused 1 statement 16) → HasFollowed statement true desk new_desk
refusal_followed statement desk middle new_desk same added = record {
  added = entry.Refused 1 statement 16 ∷ [];
  desk_is = added ∙ ap (λ (d : DeskState). desk_with_entry d (entry.Refused 1 statement 16)) same;
  follows = wants_memory;
}

pub keeps_through : (desk middle new_desk : DeskState) → KeepsServing desk middle → KeepsServing middle new_desk
    → KeepsServing desk new_desk
keeps_through desk middle new_desk a b = record {
  cubes = b.cubes ∙ a.cubes;
  sessions = b.sessions ∙ a.sessions;
  safe = b.safe ∙ a.safe;
  serving = λ mode serving.
      subst (λ (safe : ℕ). IsServing (state_of new_desk.register) safe mode) a.safe
      (b.serving mode
      (subst (λ (safe : ℕ). IsServing (state_of middle.register) safe mode) (sym a.safe)
      (a.serving mode serving)));
}

pub keeps_round : (desk middle : DeskState)
    → middle ≡ desk_with_entries desk (round_entries (state_of desk.register)) → KeepsServing desk middle
keeps_round desk middle made =
    keeps desk middle (round_entries (state_of desk.register)) made (round_keeps (state_of desk.register))

pub if_true : (b : Bool) (P Q : Type 0) → OnTrue b P → (P → Q) → OnTrue b Q
if_true true P Q h then = then h
if_true false P Q h then = tt

-- After the entry of a FLUSH, LSE is what it was.
pub purge_fits_after : (statement epoch : ℕ) (desk middle : DeskState)
    → middle ≡ desk_with_entry desk (entry.Flushed 1 statement) → epoch ≡ (state_of desk.register).lse
    → epoch ≡ (state_of middle.register).lse
purge_fits_after statement epoch desk middle flushed is =
    is
    ∙ sym (ap (λ (d : DeskState). (state_of d.register).lse) flushed
    ∙ ap (λ (s : JournalState). s.lse) (state_more desk (entry.Flushed 1 statement ∷ [])))
