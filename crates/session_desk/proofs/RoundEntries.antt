-- What the entries of rounds leave of a desk.
use Rattle.std.proofs.Common.{◌≡◌, ◌∙◌, ℕ, ◌<◌, ◌==◌, Bool, true, false, if◌then◌else◌, List, [], ◌∷◌, ◌++◌, refl, sym, ap, subst, append_assoc}
use Rattle.std.specs.Prelude.{fold}
use Rattle.std.specs.List.{filter_map, list_all, list_any}
use Rattle.std.proofs.lemmas.List.Sums.{fold-append}
use Rattle.cube_journal.specs.Counters.{JournalState, opening_state, state_after, target}
use Rattle.cube_journal.specs.Entries.{is_of_session}
use Rattle.cube_journal.specs.Legal.{begins_with_safe_round}
use Rattle.cube_journal.specs.declared.journal_entry.JournalEntry.{JournalEntry}
use Rattle.cube_journal.specs.declared.journal_entry.JournalEntry.TheVariants as entry
use Rattle.cube_run.specs.RunRecords.{RunRecord, made_by}
use Rattle.cube_run.specs.SessionStates.{Mode, Idle, Open, Aborted}
use Rattle.cube_run.specs.SessionSteps.{session_part}
use Rattle.one_session.specs.Pasts.{has_one_owner}
use Rattle.aosi_desk.specs.State.{state_of}
use Rattle.aosi_desk.specs.Desks.{DeskState, speaks_of_cubes}
use Rattle.session_desk.specs.AtDesk.{IsServing, KeepsServing, change_epoch, desk_with_entries}
use Rattle.session_desk.specs.Entries.{round_entries}

-- What a desk with more entries has come to.
pub state_more : (desk : DeskState) (es : List JournalEntry)
    → state_of (desk_with_entries desk es).register ≡ fold state_after (state_of desk.register) es
state_more desk es = fold-append state_after (opening_state desk.register.safe) desk.register.journal es

pub desk_more : (desk : DeskState) (es more : List JournalEntry)
    → desk_with_entries (desk_with_entries desk es) more ≡ desk_with_entries desk (es ++ more)
desk_more desk es more =
    ap (λ (journal : List JournalEntry). record {
      register = record { safe = desk.register.safe; sessions = desk.register.sessions; journal = journal };
      cubes = desk.cubes;
      opening = desk.opening;
    }) (append_assoc desk.register.journal es more)

-- These entries leave served whom a desk served.
abbrev pub Keep : JournalState → List JournalEntry → Type 0
Keep s es = (safe : ℕ) (mode : Mode) → IsServing s safe mode → IsServing (fold state_after s es) safe mode

pub keeps : (desk new_desk : DeskState) (es : List JournalEntry) → new_desk ≡ desk_with_entries desk es
    → Keep (state_of desk.register) es → KeepsServing desk new_desk
keeps desk new_desk es h keep = record {
  cubes = ap (λ (d : DeskState). d.cubes) h;
  sessions = ap (λ (d : DeskState). d.register.sessions) h;
  safe = ap (λ (d : DeskState). d.register.safe) h;
  serving = λ mode serving.
      subst (λ (s : JournalState). IsServing s desk.register.safe mode)
      (sym (ap (λ (d : DeskState). state_of d.register) h ∙ state_more desk es))
      (keep desk.register.safe mode serving);
}

pub keeps_same : (desk new_desk : DeskState) → new_desk ≡ desk → KeepsServing desk new_desk
keeps_same desk new_desk h = record {
  cubes = ap (λ (d : DeskState). d.cubes) h;
  sessions = ap (λ (d : DeskState). d.register.sessions) h;
  safe = ap (λ (d : DeskState). d.register.safe) h;
  serving = λ mode serving.
      subst (λ (d : DeskState). IsServing (state_of d.register) desk.register.safe mode) (sym h) serving;
}

pub same_change : (s t : JournalState) (mode : Mode) → t.ec ≡ s.ec → change_epoch t mode ≡ change_epoch s mode
same_change s t Idle h = h
same_change s t (Open writer) h = refl
same_change s t (Aborted epoch) h = h

-- A round opens and ends as safe: EC and what is open but the round stay.
pub round_keeps : (s : JournalState) → Keep s (round_entries s)
round_keeps s = λ safe mode h. at safe mode h (target s == s.lse)
  where
    at : (safe : ℕ) (mode : Mode) → IsServing s safe mode → (b : Bool)
        → IsServing (fold state_after s
        (if b then entry.Idle (target s) ∷ [] else entry.Round (target s) ∷ entry.Safe (target s) ∷ [])) safe mode
    at safe mode h true = h
    at safe mode h false = record {
      snapshots = h.snapshots;
      pending = h.pending;
      writer = h.writer;
      kept =
          subst (λ (n : ℕ). safe < n)
          (sym (same_change s (fold state_after s (entry.Round (target s) ∷ entry.Safe (target s) ∷ [])) mode refl))
          h.kept;
      round = refl;
      store = h.store;
    }

-- The entries of a round are the flusher's, and make no cube.
pub round_part : (s : JournalState) (es : List JournalEntry)
    → session_part 1 (round_entries s ++ es) ≡ session_part 1 es
round_part s es = at (target s == s.lse)
  where
    at : (b : Bool) → session_part 1
        ((if b then entry.Idle (target s) ∷ [] else entry.Round (target s) ∷ entry.Safe (target s) ∷ []) ++ es)
        ≡ session_part 1 es
    at true = refl
    at false = refl

pub round_owners : (s : JournalState) (es : List JournalEntry)
    → list_all has_one_owner (round_entries s ++ es) ≡ list_all has_one_owner es
round_owners s es = at (target s == s.lse)
  where
    at : (b : Bool) → list_all has_one_owner
        ((if b then entry.Idle (target s) ∷ [] else entry.Round (target s) ∷ entry.Safe (target s) ∷ []) ++ es)
        ≡ list_all has_one_owner es
    at true = refl
    at false = refl

pub round_cubes : (s : JournalState) (es : List JournalEntry) (run : RunRecord)
    → filter_map (made_by run) (round_entries s ++ es) ≡ filter_map (made_by run) es
round_cubes s es run = at (target s == s.lse)
  where
    at : (b : Bool) → filter_map (made_by run)
        ((if b then entry.Idle (target s) ∷ [] else entry.Round (target s) ∷ entry.Safe (target s) ∷ []) ++ es)
        ≡ filter_map (made_by run) es
    at true = refl
    at false = refl

-- Nor do they speak of one.
pub round_speaks : (s : JournalState) (es : List JournalEntry)
    → list_any speaks_of_cubes (round_entries s ++ es) ≡ list_any speaks_of_cubes es
round_speaks s es = at (target s == s.lse)
  where
    at : (b : Bool) → list_any speaks_of_cubes
        ((if b then entry.Idle (target s) ∷ [] else entry.Round (target s) ∷ entry.Safe (target s) ∷ []) ++ es)
        ≡ list_any speaks_of_cubes es
    at true = refl
    at false = refl

pub round_epoch : (s : JournalState)
    → (fold state_after s (round_entries s)).ec ≡ s.ec
round_epoch s = at (target s == s.lse)
  where
    at : (b : Bool) → (fold state_after s
        (if b then entry.Idle (target s) ∷ [] else entry.Round (target s) ∷ entry.Safe (target s) ∷ [])).ec ≡ s.ec
    at true = refl
    at false = refl

pub round_of_none : (s : JournalState) → list_any (is_of_session 1) (round_entries s) ≡ false
round_of_none s = at (target s == s.lse)
  where
    at : (b : Bool) → list_any (is_of_session 1)
        (if b then entry.Idle (target s) ∷ [] else entry.Round (target s) ∷ entry.Safe (target s) ∷ []) ≡ false
    at true = refl
    at false = refl

pub round_is_safe : (s : JournalState) → begins_with_safe_round (round_entries s) ≡ true
round_is_safe s = at (target s == s.lse)
  where
    at : (b : Bool) → begins_with_safe_round
        (if b then entry.Idle (target s) ∷ [] else entry.Round (target s) ∷ entry.Safe (target s) ∷ []) ≡ true
    at true = refl
    at false = refl
