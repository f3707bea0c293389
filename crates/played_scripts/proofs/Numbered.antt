-- Entries whose statements never fall are those of each statement, one after the other.
use Rattle.std.proofs.Common.{◌≡◌, ◌≢◌, ◌∙◌, ℕ, suc, ◌+◌, ◌<◌, ◌≤◌, ◌==◌, Bool, true, false, ◌&&◌, cond, List, [], ◌∷◌, ◌++◌, length, filter, Option, Some, None, inl, inr, refl, sym, ap, arith}
use Rattle.std.specs.List.{list_all}
use Rattle.std.specs.Option.{IsSomeAnd, option_map_or}
use Rattle.std.proofs.lemmas.Bool.{eq-eqb, ne_eqb}
use Rattle.std.proofs.lemmas.Bool.Decides.{eqb_tells}
use Rattle.cube_journal.specs.Entries.{statement_of}
use Rattle.cube_journal.specs.declared.journal_entry.JournalEntry.{JournalEntry}
use Rattle.cube_run.specs.SessionSteps.{is_of_statement}
use Rattle.played_scripts.specs.PlayedRuns.{AreNumbered}

-- The number of an entry's statement tells of which statement it is.
is_of : (e : JournalEntry) (j k : ℕ) → statement_of e ≡ Some j → j ≡ k → is_of_statement k e ≡ true
is_of e j k s same = ap (λ (o : Option ℕ). option_map_or (λ x. x == k) o false) s ∙ eq-eqb j k same

is_of_none : (e : JournalEntry) (j k : ℕ) → statement_of e ≡ Some j → (j ≡ k → ⊥) → is_of_statement k e ≡ false
is_of_none e j k s other = ap (λ (o : Option ℕ). option_map_or (λ x. x == k) o false) s ∙ ne_eqb j k other

-- The entries of the first statement stand in front of those of later ones.
pub record IsParted (k last : ℕ) (part : List JournalEntry) : Type 0 where
  pub front : List JournalEntry
  pub back : List JournalEntry
  pub whole : part ≡ front ++ back
  pub here : filter (is_of_statement k) front ≡ front
  pub others : (i : ℕ) → k < i → filter (is_of_statement i) front ≡ []
  pub none : filter (is_of_statement k) back ≡ []
  pub later : AreNumbered (k + 1) last back

-- Numbered entries of later statements have none of an earlier one.
none_earlier_at : (k first last : ℕ) (e : JournalEntry) (part : List JournalEntry) (o : Option ℕ) → statement_of e ≡ o
    → k < first → IsSomeAnd o (λ j. (first ≤ j) × (j ≤ last) × AreNumbered j last part)
    → ((j : ℕ) → k < j → AreNumbered j last part → filter (is_of_statement k) part ≡ [])
    → filter (is_of_statement k) (e ∷ part) ≡ []
none_earlier_at k first last e part None s l h others = absurd h
none_earlier_at k first last e part (Some j) s l h others =
    let apart : (j ≡ k → ⊥) = (λ same. omega (arith, same, h.0, l)) in
    ap (λ (b : Bool). cond b (e ∷ filter (is_of_statement k) part) (filter (is_of_statement k) part))
    (is_of_none e j k s apart)
    ∙ others j (omega (arith, h.0, l)) h.2

pub none_earlier : (k first last : ℕ) (part : List JournalEntry) → k < first → AreNumbered first last part
    → filter (is_of_statement k) part ≡ []
none_earlier k first last [] l h = refl
none_earlier k first last (e ∷ part) l h =
    none_earlier_at k first last e part (statement_of e) refl l h (λ j m n. none_earlier k j last part m n)

parted_at : (k last : ℕ) (e : JournalEntry) (part : List JournalEntry) (o : Option ℕ) → statement_of e ≡ o
    → IsSomeAnd o (λ j. (k ≤ j) × (j ≤ last) × AreNumbered j last part)
    → (AreNumbered k last part → IsParted k last part) → IsParted k last (e ∷ part)
parted_at k last e part None s h rest = absurd h
parted_at k last e part (Some j) s h rest =
    elim (eqb_tells j k) [
      | inl same ↦
          let r = rest (coe 0 1 (i. AreNumbered (same.1 i) last part) h.2) in
          record {
            front = e ∷ r.front;
            back = r.back;
            whole = ap (λ es. e ∷ es) r.whole;
            here =
                ap (λ (b : Bool). cond b (e ∷ filter (is_of_statement k) r.front) (filter (is_of_statement k) r.front))
                (is_of e j k s same.1)
                ∙ ap (λ es. e ∷ es) r.here;
            others = λ i l.
                ap (λ (b : Bool). cond b (e ∷ filter (is_of_statement i) r.front) (filter (is_of_statement i) r.front))
                (is_of_none e j i s (λ other. omega (arith, other, same.1, l)))
                ∙ r.others i l;
            none = r.none;
            later = r.later;
          }
      | inr other ↦
          let above : k + 1 ≤ j = (let differ = other.1 in omega (arith, h.0, differ)) in
          let all : AreNumbered (k + 1) last (e ∷ part) =
          coe 1 0 (i. IsSomeAnd (s i) (λ x. (k + 1 ≤ x) × (x ≤ last) × AreNumbered x last part))
          (above, h.1, h.2)
          in
          record {
            front = [];
            back = e ∷ part;
            whole = refl;
            here = refl;
            others = λ i l. refl;
            none = none_earlier k (k + 1) last (e ∷ part) (omega arith) all;
            later = all;
          }
    ]

pub parted : (k last : ℕ) (part : List JournalEntry) → AreNumbered k last part → IsParted k last part
parted k last [] h = record {
  front = [];
  back = [];
  whole = refl;
  here = refl;
  others = λ i l. refl;
  none = refl;
  later = tt;
}
parted k last (e ∷ part) h = parted_at k last e part (statement_of e) refl h (parted k last part)

-- Of entries that are all of one statement those of that statement are all.
all_of_one_at : (k : ℕ) (e : JournalEntry) (part : List JournalEntry) (o : Option ℕ) → statement_of e ≡ o
    → IsSomeAnd o (λ j. (k ≤ j) × (j ≤ k) × AreNumbered j k part)
    → (AreNumbered k k part → filter (is_of_statement k) part ≡ part)
    → filter (is_of_statement k) (e ∷ part) ≡ e ∷ part
all_of_one_at k e part None s h rest = absurd h
all_of_one_at k e part (Some j) s h rest =
    let same : j ≡ k = omega (arith, h.0, h.1) in
    ap (λ (b : Bool). cond b (e ∷ filter (is_of_statement k) part) (filter (is_of_statement k) part))
    (is_of e j k s same)
    ∙ ap (λ es. e ∷ es) (rest (coe 0 1 (i. AreNumbered (same i) k part) h.2))

pub all_of_one : (k : ℕ) (part : List JournalEntry) → AreNumbered k k part → filter (is_of_statement k) part ≡ part
all_of_one k [] h = refl
all_of_one k (e ∷ part) h = all_of_one_at k e part (statement_of e) refl h (all_of_one k part)
