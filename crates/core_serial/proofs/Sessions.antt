-- What was in a journal since a session's last entry, with one more entry that is not of the session.
use Rattle.std.proofs.Common.{◌≡◌, ◌∙◌, ℕ, Bool, true, false, true≢false, ◌||◌, List, [], ◌∷◌, ◌++◌, append_assoc, refl, ap}
use Rattle.std.specs.List.{list_any}
use Rattle.std.proofs.lemmas.Bool.{false≢true}
use Rattle.cube_journal.specs.declared.journal_entry.JournalEntry.{JournalEntry}
use Rattle.cube_journal.specs.declared.journal_entry.JournalEntry.TheVariants as entry
use Rattle.cube_journal.specs.Entries.{is_of_session}
use Rattle.cube_journal.specs.Legal.{PartsSince, ends_safe, begins_with_safe_round, WasFlushed, WasSafe}

any-more : (test : JournalEntry → Bool) (xs : List JournalEntry) (x : JournalEntry) → list_any test xs ≡ false → test x ≡ false
    → list_any test (xs ++ x ∷ []) ≡ false
any-more test [] x none new = λ i. new i || false
any-more test (y ∷ xs) x none new =
    (λ i. first (test y) (list_any test xs) none i || list_any test (xs ++ x ∷ []))
    ∙ any-more test xs x (last (test y) (list_any test xs) none) new
  where
    first : (a b : Bool) → (a || b) ≡ false → a ≡ false
    first true b e = e
    first false b e = refl

    last : (a b : Bool) → (a || b) ≡ false → b ≡ false
    last true b e = absurd (true≢false e)
    last false b e = e

parts-more : (a : ℕ) (journal earlier later : List JournalEntry) (e : JournalEntry) → is_of_session a e ≡ false
    → PartsSince a journal earlier later → PartsSince a (journal ++ e ∷ []) earlier (later ++ e ∷ [])
parts-more a journal earlier later e other p = record {
  whole = ap (λ (xs : List JournalEntry). xs ++ e ∷ []) p.whole ∙ append_assoc earlier later (e ∷ []);
  others = any-more (is_of_session a) later e p.others other;
}

-- Parts with nothing later.
pub parts-now : (a : ℕ) (journal : List JournalEntry) → journal ≡ journal ++ [] → PartsSince a journal journal []
parts-now a journal whole = record { whole = whole; others = refl }

pub safe-more : (safe a epoch : ℕ) (journal : List JournalEntry) (e : JournalEntry) → is_of_session a e ≡ false
    → WasSafe safe a epoch journal → WasSafe safe a epoch (journal ++ e ∷ [])
safe-more safe a epoch journal e other w = record {
  earlier = w.earlier;
  later = w.later ++ e ∷ [];
  parts = parts-more a journal w.earlier w.later e other w.parts;
  lse = w.lse;
}

ends-more : (later : List JournalEntry) (e : JournalEntry) → ends_safe later ≡ true → ends_safe (later ++ e ∷ []) ≡ true
ends-more [] e is = absurd (false≢true is)
ends-more (entry.Safe epoch ∷ later) e is = refl
ends-more (entry.RoundLost epoch cause ∷ later) e is = absurd (false≢true is)
ends-more (entry.Begin session statement epoch deps ∷ later) e is = ends-more later e is
ends-more (entry.Read session statement epoch ∷ later) e is = ends-more later e is
ends-more (entry.ReadEnd session statement ∷ later) e is = ends-more later e is
ends-more (entry.Committed session statement epoch ∷ later) e is = ends-more later e is
ends-more (entry.Aborted session statement epoch cause ∷ later) e is = ends-more later e is
ends-more (entry.Refused session statement code ∷ later) e is = ends-more later e is
ends-more (entry.Cleared session statement ∷ later) e is = ends-more later e is
ends-more (entry.Show session statement ∷ later) e is = ends-more later e is
ends-more (entry.Flushed session statement ∷ later) e is = ends-more later e is
ends-more (entry.Purged session statement epoch ∷ later) e is = ends-more later e is
ends-more (entry.Cube session statement epoch ∷ later) e is = ends-more later e is
ends-more (entry.Round epoch ∷ later) e is = ends-more later e is
ends-more (entry.Idle epoch ∷ later) e is = ends-more later e is

begins-more : (later : List JournalEntry) (e : JournalEntry) → begins_with_safe_round later ≡ true
    → begins_with_safe_round (later ++ e ∷ []) ≡ true
begins-more [] e is = absurd (false≢true is)
begins-more (entry.Idle epoch ∷ later) e is = refl
begins-more (entry.Round epoch ∷ later) e is = ends-more later e is
begins-more (_ ∷ later) e is = absurd (false≢true is)

pub flushed-more : (a : ℕ) (journal : List JournalEntry) (e : JournalEntry) → is_of_session a e ≡ false
    → WasFlushed a journal → WasFlushed a (journal ++ e ∷ [])
flushed-more a journal e other w = record {
  earlier = w.earlier;
  later = w.later ++ e ∷ [];
  parts = parts-more a journal w.earlier w.later e other w.parts;
  round = begins-more w.later e w.round;
}

-- A round is under way since a place after which there is no entry of the session.

abbrev pub is_end : JournalEntry → Bool
is_end (entry.Safe epoch) = true
is_end (entry.RoundLost epoch cause) = true
is_end _ = false

pub record IsUnderWay (a : ℕ) (journal : List JournalEntry) : Type 0 where
  pub earlier : List JournalEntry
  pub epoch : ℕ
  pub later : List JournalEntry
  pub parts : PartsSince a journal earlier (entry.Round epoch ∷ later)
  pub no_end : list_any is_end later ≡ false

pub under-way-more : (a : ℕ) (journal : List JournalEntry) (e : JournalEntry) → is_of_session a e ≡ false → is_end e ≡ false
    → IsUnderWay a journal → IsUnderWay a (journal ++ e ∷ [])
under-way-more a journal e other goes w = record {
  earlier = w.earlier;
  epoch = w.epoch;
  later = w.later ++ e ∷ [];
  parts = parts-more a journal w.earlier (entry.Round w.epoch ∷ w.later) e other w.parts;
  no_end = any-more is_end w.later e w.no_end goes;
}

-- It is opened, or there is nothing to save.
pub under-way-now : (a epoch : ℕ) (journal : List JournalEntry) → IsUnderWay a (journal ++ entry.Round epoch ∷ [])
under-way-now a epoch journal = record {
  earlier = journal;
  epoch = epoch;
  later = [];
  parts = record { whole = refl; others = refl };
  no_end = refl;
}

pub idle-now : (a epoch : ℕ) (journal : List JournalEntry) → WasFlushed a (journal ++ entry.Idle epoch ∷ [])
idle-now a epoch journal = record {
  earlier = journal;
  later = entry.Idle epoch ∷ [];
  parts = record { whole = refl; others = refl };
  round = refl;
}

-- It is saved.

ends-now : (later : List JournalEntry) (epoch : ℕ) → list_any is_end later ≡ false → ends_safe (later ++ entry.Safe epoch ∷ []) ≡ true
ends-now [] epoch none = refl
ends-now (entry.Safe x ∷ later) epoch none = refl
ends-now (entry.RoundLost x cause ∷ later) epoch none = absurd (true≢false none)
ends-now (entry.Begin session statement x deps ∷ later) epoch none = ends-now later epoch none
ends-now (entry.Read session statement x ∷ later) epoch none = ends-now later epoch none
ends-now (entry.ReadEnd session statement ∷ later) epoch none = ends-now later epoch none
ends-now (entry.Committed session statement x ∷ later) epoch none = ends-now later epoch none
ends-now (entry.Aborted session statement x cause ∷ later) epoch none = ends-now later epoch none
ends-now (entry.Refused session statement code ∷ later) epoch none = ends-now later epoch none
ends-now (entry.Cleared session statement ∷ later) epoch none = ends-now later epoch none
ends-now (entry.Show session statement ∷ later) epoch none = ends-now later epoch none
ends-now (entry.Flushed session statement ∷ later) epoch none = ends-now later epoch none
ends-now (entry.Purged session statement x ∷ later) epoch none = ends-now later epoch none
ends-now (entry.Cube session statement x ∷ later) epoch none = ends-now later epoch none
ends-now (entry.Round x ∷ later) epoch none = ends-now later epoch none
ends-now (entry.Idle x ∷ later) epoch none = ends-now later epoch none

pub saved-now : (a epoch : ℕ) (journal : List JournalEntry) → IsUnderWay a journal → WasFlushed a (journal ++ entry.Safe epoch ∷ [])
saved-now a epoch journal w = record {
  earlier = w.earlier;
  later = entry.Round w.epoch ∷ (w.later ++ entry.Safe epoch ∷ []);
  parts = parts-more a journal w.earlier (entry.Round w.epoch ∷ w.later) (entry.Safe epoch) refl w.parts;
  round = ends-now w.later epoch w.no_end;
}
