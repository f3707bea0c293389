-- Whether a number holds a snapshot, by the entries of a journal.
use Rattle.std.proofs.Common.{◌≡◌, ◌⊎◌, ◌∙◌, ℕ, ◌==◌, Bool, true, false, true≢false, ◌&&◌, ◌||◌, List, [], ◌∷◌, cond, fold, Option, Some, None, if◌then◌else◌, inl, inr, refl, ap, arith, eqb-true, ne_eqb}
use Rattle.std.proofs.lemmas.Bool.{or_parts}
use Rattle.cube_values.specs.declared.snapshot.Snapshot.{Snapshot}
use Rattle.cube_journal.specs.declared.journal_entry.JournalEntry.{JournalEntry}
use Rattle.cube_journal.specs.declared.journal_entry.JournalEntry.TheVariants as entry
use Rattle.cube_journal.specs.Counters.{JournalState, held_by, state_after}
use Rattle.cube_run.specs.SessionStates.{KeptWatch, Mode, Idle, Open, Aborted, first_holder, second_holder}
use Rattle.cube_run.specs.SessionSteps.{belongs_to, session_part}
use Rattle.core_events.specs.Fitting.{IsNumberOf}
use Rattle.core_events.proofs.DeskSteps.{change_by, desk-held, held_after}
use Rattle.core_events.proofs.Lookups.{with_one, without_one}

-- It holds one after an entry.
abbrev pub held_step : ℕ → Bool → JournalEntry → Bool
held_step m held (entry.Begin session statement epoch deps) = held || (session == m)
held_step m held (entry.Read session statement epoch) = held || (session == m)
held_step m held (entry.ReadEnd session statement) = if session == m then false else held
held_step m held (entry.Committed session statement epoch) = if session == m then false else held
held_step m held (entry.Aborted session statement epoch cause) = if session == m then false else held
held_step m held _ = held

abbrev pub held_after_all : ℕ → Bool → List JournalEntry → Bool
held_after_all m held entries = fold (held_step m) held entries

-- ---- by the journal

abbrev pub is_there : Option Snapshot → Bool
is_there None = false
is_there (Some s) = true

one-there : (h : Option Snapshot) (here : Bool) (v : Snapshot) → is_there (with_one h here v) ≡ (is_there h || here)
one-there (Some x) here v = refl
one-there None true v = refl
one-there None false v = refl

none-there : (out : Bool) (h : Option Snapshot) → is_there (without_one out h) ≡ (if out then false else is_there h)
none-there true h = refl
none-there false h = refl

entry-there : (m : ℕ) (h : Option Snapshot) (e : JournalEntry)
    → is_there (held_after (change_by (Some e)) m h) ≡ held_step m (is_there h) e
entry-there m h (entry.Begin session statement epoch deps) = one-there h (session == m) _
entry-there m h (entry.Read session statement epoch) = one-there h (session == m) _
entry-there m h (entry.ReadEnd session statement) = none-there (session == m) h
entry-there m h (entry.Committed session statement epoch) = none-there (session == m) h
entry-there m h (entry.Aborted session statement epoch cause) = none-there (session == m) h
entry-there m h e = refl

pub held-by-entries : (m : ℕ) (s : JournalState) (journal : List JournalEntry)
    → is_there (held_by (fold state_after s journal).snapshots m)
    ≡ held_after_all m (is_there (held_by s.snapshots m)) journal
held-by-entries m s [] = refl
held-by-entries m s (e ∷ journal) =
    held-by-entries m (state_after s e) journal
    ∙ ap (λ (h : Bool). held_after_all m h journal)
    (ap is_there (desk-held s (Some e) m) ∙ entry-there m (held_by s.snapshots m) e)

pub not-there : (h : Option Snapshot) → is_there h ≡ false → h ≡ None
not-there None is = refl
not-there (Some s) is = absurd (true≢false is)

-- ---- by a session's part of it

other-number : (a m session : ℕ) → IsNumberOf a m
    → ((session == a) || ((session == first_holder a) || (session == second_holder a))) ≡ false
    → (session == m) ≡ false
other-number a m session (inl same) none =
    ap (λ (n : ℕ). session == n) same
    ∙ (or_parts (session == a) ((session == first_holder a) || (session == second_holder a)) none).0
other-number a m session (inr (inl same)) none =
    ap (λ (n : ℕ). session == n) same
    ∙ (or_parts (session == first_holder a) (session == second_holder a)
    (or_parts (session == a) ((session == first_holder a) || (session == second_holder a)) none).1).0
other-number a m session (inr (inr same)) none =
    ap (λ (n : ℕ). session == n) same
    ∙ (or_parts (session == first_holder a) (session == second_holder a)
    (or_parts (session == a) ((session == first_holder a) || (session == second_holder a)) none).1).1

or-false : (b : Bool) → (b || false) ≡ b
or-false true = refl
or-false false = refl

other-entry : (a m : ℕ) (held : Bool) (e : JournalEntry) → IsNumberOf a m → belongs_to a e ≡ false
    → held_step m held e ≡ held
other-entry a m held (entry.Begin session statement epoch deps) under none =
    ap (λ (b : Bool). held || b) (other-number a m session under none) ∙ or-false held
other-entry a m held (entry.Read session statement epoch) under none =
    ap (λ (b : Bool). held || b) (other-number a m session under none) ∙ or-false held
other-entry a m held (entry.ReadEnd session statement) under none =
    ap (λ (b : Bool). if b then false else held) (other-number a m session under none)
other-entry a m held (entry.Committed session statement epoch) under none =
    ap (λ (b : Bool). if b then false else held) (other-number a m session under none)
other-entry a m held (entry.Aborted session statement epoch cause) under none =
    ap (λ (b : Bool). if b then false else held) (other-number a m session under none)
other-entry a m held e under none = refl

pub held-by-part : (a m : ℕ) (held : Bool) (journal : List JournalEntry) → IsNumberOf a m
    → held_after_all m held journal ≡ held_after_all m held (session_part a journal)
held-by-part a m held [] under = refl
held-by-part a m held (e ∷ journal) under =
    at (belongs_to a e) refl (λ h. held-by-part a m h journal under)
  where
    at : (own : Bool) → belongs_to a e ≡ own
        → ((h : Bool) → held_after_all m h journal ≡ held_after_all m h (session_part a journal))
        → held_after_all m (held_step m held e) journal
        ≡ held_after_all m held (cond own (e ∷ session_part a journal) (session_part a journal))
    at true is rest = rest (held_step m held e)
    at false is rest = ap (λ (h : Bool). held_after_all m h journal) (other-entry a m held e under is) ∙ rest held

-- ---- what a session is

abbrev pub is_open : Mode → Bool
is_open Idle = false
is_open (Open writer) = true
is_open (Aborted epoch) = false

abbrev pub keeps_under : Option KeptWatch → ℕ → Bool
keeps_under None m = false
keeps_under (Some kept) m = kept.holder == m

-- It holds its writer under its number, and its watch's reader under a holder's.
abbrev pub held_in : ℕ → Mode → Option KeptWatch → ℕ → Bool
held_in i mode watch m = (is_open mode && (i == m)) || keeps_under watch m

abbrev pub IsHolder : ℕ → Option KeptWatch → Type 0
IsHolder i None = Unit {0}
IsHolder i (Some kept) = (kept.holder ≡ first_holder i) ⊎ (kept.holder ≡ second_holder i)

pub record IsState (i : ℕ) (mode : Mode) (watch : Option KeptWatch) (holds : ℕ → Bool) : Type 0 where
  pub held : (m : ℕ) → holds m ≡ held_in i mode watch m
  pub holder : IsHolder i watch

-- No watch is kept under the session's own number.
pub watch-apart : (i m : ℕ) (watch : Option KeptWatch) → IsHolder i watch → (i == m) ≡ true
    → keeps_under watch m ≡ false
watch-apart i m None holder own = refl
watch-apart i m (Some kept) (inl is) own =
    let same = eqb-true i m own in ne_eqb kept.holder m (λ other. omega (arith, is, same, other))
watch-apart i m (Some kept) (inr is) own =
    let same = eqb-true i m own in ne_eqb kept.holder m (λ other. omega (arith, is, same, other))
