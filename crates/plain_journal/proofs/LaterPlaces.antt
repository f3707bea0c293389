-- A place after which a session has no entry, found one after the other or by parting the journal there.
use Rattle.std.proofs.Common.{◌≡◌, ℕ, Bool, true, false, not, ◌&&◌, ◌||◌, ◌==◌, ◌↔◌, IsTrue, List, [], ◌∷◌, ◌++◌, fold, refl, ap, sym, ◌∙◌, arith}
use Rattle.std.specs.List.{list_any}
use Rattle.std.proofs.lemmas.Grind.{common_steps}
use Rattle.cube_journal.specs.declared.journal_entry.JournalEntry.{JournalEntry}
use Rattle.cube_journal.specs.Counters.{JournalState, state_after, opening_state, lse_after}
use Rattle.cube_journal.specs.Entries.{is_of_session}
use Rattle.cube_journal.specs.Legal.{begins_with_safe_round, PartsSince, WasFlushed, WasSafe}
use Rattle.plain_journal.specs.Places.{flushed_in, safe_in}

lse-fold : (s : JournalState) (journal : List JournalEntry)
    → (fold state_after s journal).lse ≡ fold lse_after s.lse journal
lse-fold s [] = refl
lse-fold s (e ∷ journal) = lse-fold (state_after s e) journal

both : (a b : Bool) → (a && not b) ≡ true → (a ≡ true) × (b ≡ false)
both true false p = (refl, refl)
both true true p = absurd (cc)
both false b p = absurd (cc)

either-or : {P : Type 0} (a b : Bool) → (a || b) ≡ true → (a ≡ true → P) → (b ≡ true → P) → P
either-or true b p f g = f refl
either-or false b p f g = g p

-- One more entry stands in front of both.
flushed-behind : {session : ℕ} (e : JournalEntry) {journal : List JournalEntry} → WasFlushed session journal
    → WasFlushed session (e ∷ journal)
flushed-behind e w = record {
  earlier = e ∷ w.earlier;
  later = w.later;
  parts = record { whole = ap (λ xs. e ∷ xs) w.parts.whole; others = w.parts.others };
  round = w.round;
}

flushed-found : (session : ℕ) (journal : List JournalEntry) → flushed_in session journal ≡ true
    → WasFlushed session journal
flushed-found session [] p = absurd (cc)
flushed-found session (e ∷ journal) p =
    either-or _ _ p
    (λ here. let b = both _ _ here in record {
      earlier = [];
      later = e ∷ journal;
      parts = record { whole = refl; others = b.1 };
      round = b.0;
    })
    (λ behind. flushed-behind e (flushed-found session journal behind))

or-left : (a b : Bool) → a ≡ true → (a || b) ≡ true
or-left true b p = refl
or-left false b p = absurd (cc)

or-right : (a b : Bool) → b ≡ true → (a || b) ≡ true
or-right true b p = refl
or-right false b p = p

and-not : (a b : Bool) → a ≡ true → b ≡ false → (a && not b) ≡ true
and-not true false p q = refl
and-not true true p q = absurd (cc)
and-not false b p q = absurd (cc)

flushed-at : (session : ℕ) (earlier later : List JournalEntry) → list_any (is_of_session session) later ≡ false
    → begins_with_safe_round later ≡ true → flushed_in session (earlier ++ later) ≡ true
flushed-at session [] [] none round = absurd (cc)
flushed-at session [] (e ∷ later) none round = or-left _ _ (and-not _ _ round none)
flushed-at session (e ∷ earlier) later none round = or-right _ _ (flushed-at session earlier later none round)

pub flushed_in_law : (session : ℕ) (journal : List JournalEntry)
    → IsTrue (flushed_in session journal) ↔ WasFlushed session journal
flushed_in_law session journal = (
  flushed-found session journal,
  λ w. ap (flushed_in session) w.parts.whole ∙ flushed-at session w.earlier w.later w.parts.others w.round,
)

-- The epoch is LSE where the journal parts, if LSE stands here at first.
record SafeFrom (lse session epoch : ℕ) (journal : List JournalEntry) : Type 0 where
  earlier : List JournalEntry
  later : List JournalEntry
  parts : PartsSince session journal earlier later
  is : fold lse_after lse earlier ≡ epoch

safe-behind : {lse session epoch : ℕ} (e : JournalEntry) {journal : List JournalEntry}
    → SafeFrom (lse_after lse e) session epoch journal → SafeFrom lse session epoch (e ∷ journal)
safe-behind e w = record {
  earlier = e ∷ w.earlier;
  later = w.later;
  parts = record { whole = ap (λ xs. e ∷ xs) w.parts.whole; others = w.parts.others };
  is = w.is;
}

pub same-number : (a b : ℕ) → (a == b) ≡ true → a ≡ b
same-number a b p = grind (arith, common_steps)

same-test : (a b : ℕ) → a ≡ b → (a == b) ≡ true
same-test a b p = grind (arith, common_steps)

safe-found : (lse session epoch : ℕ) (journal : List JournalEntry) → safe_in lse session epoch journal ≡ true
    → SafeFrom lse session epoch journal
safe-found lse session epoch [] p = record {
  earlier = [];
  later = [];
  parts = record { whole = refl; others = refl };
  is = same-number lse epoch p;
}
safe-found lse session epoch (e ∷ journal) p =
    either-or _ _ p
    (λ here. let b = both _ _ here in record {
      earlier = [];
      later = e ∷ journal;
      parts = record { whole = refl; others = b.1 };
      is = same-number lse epoch b.0;
    })
    (λ behind. safe-behind e (safe-found (lse_after lse e) session epoch journal behind))

safe-at : (lse session epoch : ℕ) (earlier later : List JournalEntry) → list_any (is_of_session session) later ≡ false
    → fold lse_after lse earlier ≡ epoch → safe_in lse session epoch (earlier ++ later) ≡ true
safe-at lse session epoch [] [] none is = same-test lse epoch is
safe-at lse session epoch [] (e ∷ later) none is = or-left _ _ (and-not _ _ (same-test lse epoch is) none)
safe-at lse session epoch (e ∷ earlier) later none is = or-right _ _ (safe-at (lse_after lse e) session epoch earlier later none is)

pub safe_in_law : (safe session epoch : ℕ) (journal : List JournalEntry)
    → IsTrue (safe_in safe session epoch journal) ↔ WasSafe safe session epoch journal
safe_in_law safe session epoch journal = (
  λ p. let w = safe-found safe session epoch journal p in record {
    earlier = w.earlier;
    later = w.later;
    parts = w.parts;
    lse = lse-fold (opening_state safe) w.earlier ∙ w.is;
  },
  λ w. ap (safe_in safe session epoch) w.parts.whole
      ∙ safe-at safe session epoch w.earlier w.later w.parts.others (sym (lse-fold (opening_state safe) w.earlier) ∙ w.lse),
)
