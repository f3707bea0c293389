-- Rows of which the places pass a test.
use Rattle.std.proofs.Common.{◌≡◌, ℕ, suc, ◌+◌, ◌-◌, ◌<◌, ◌≤◌, Bool, true, false, not, nat_lt, List, [], ◌∷◌, ◌++◌, length, take, drop, if◌then◌else◌, refl, sym, ◌∙◌, inl, inr, arith}
use Rattle.std.specs.List.{AllByRecursion}
use Rattle.std.proofs.lemmas.Bool.{cases_lt, cond-true, cond-false}
use Rattle.std.proofs.lemmas.Bool.Decides.{nat_tests}
use Rattle.std.proofs.lemmas.List.{drop-drop, drop-take, length-drop, length-take-le}
use Rattle.std.proofs.Math.Seq.{drop-nil, take-add}
use Rattle.cube_values.specs.declared.entry.Entry.{Entry}
use Rattle.cube_values.specs.declared.row.CodedRow.{CodedRow}
use Rattle.cube_values.specs.declared.snapshot.Snapshot.{Snapshot}
use Rattle.cube_values.specs.Batches.{rows_between}
use Rattle.cube_values.specs.EpochsVector.{sees_row}
use Rattle.cube_rounds.specs.KeptRows.{rows_seen}
use Rattle.kept_batches.specs.Unhidden.{rows_at_places}
use Rattle.kept_batches.proofs.Alls.{all_if}

-- rows that are seen are those of places that are seen
pub seen_at_places : (s : Snapshot) (entries : List Entry) (i : ℕ) (rows : List CodedRow)
    → rows_seen s entries i rows ≡ rows_at_places (sees_row s entries) i rows
seen_at_places s entries i [] = refl
seen_at_places s entries i (row ∷ rows) =
    let e = seen_at_places s entries (suc i) rows in λ k. if sees_row s entries i then row ∷ e k else e k

put_before : (t : Bool) (row : CodedRow) (xs ys : List CodedRow)
    → (if t then row ∷ (xs ++ ys) else (xs ++ ys)) ≡ (if t then row ∷ xs else xs) ++ ys
put_before true row xs ys = refl
put_before false row xs ys = refl

pub places_append : (test : ℕ → Bool) (i : ℕ) (xs ys : List CodedRow)
    → rows_at_places test i (xs ++ ys) ≡ rows_at_places test i xs ++ rows_at_places test (i + length xs) ys
places_append test i [] ys = let e : i ≡ i + 0 = omega arith in λ k. rows_at_places test (e k) ys
places_append test i (row ∷ xs) ys =
    let e : suc i + length xs ≡ i + suc (length xs) = omega arith in
    let first = rows_at_places test (suc i) xs in
    let last = rows_at_places test (i + suc (length xs)) ys in
    let rest : rows_at_places test (suc i) (xs ++ ys) ≡ first ++ last =
    places_append test (suc i) xs ys ∙ λ k. first ++ rows_at_places test (e k) ys in
    (λ k. if test i then row ∷ rest k else rest k) ∙ put_before (test i) row first last

-- two tests that agree from place to place
pub places_alike : (test other : ℕ → Bool) (i k : ℕ) (xs : List CodedRow)
    → ((n : ℕ) → n < length xs → test (i + n) ≡ other (k + n)) → rows_at_places test i xs ≡ rows_at_places other k xs
places_alike test other i k [] same = refl
places_alike test other i k (row ∷ xs) same =
    let i0 : i ≡ i + 0 = omega arith in
    let k0 : k + 0 ≡ k = omega arith in
    let here : test i ≡ other k = (λ j. test (i0 j)) ∙ same 0 (omega arith) ∙ λ j. other (k0 j) in
    let rest : rows_at_places test (suc i) xs ≡ rows_at_places other (suc k) xs =
    places_alike test other (suc i) (suc k) xs (λ n lt.
    let a : suc i + n ≡ i + suc n = omega arith in
    let b : k + suc n ≡ suc k + n = omega arith in
    (λ j. test (a j)) ∙ same (suc n) (omega arith) ∙ λ j. other (b j)) in
    λ j. if here j then row ∷ rest j else rest j

-- a test that no place passes
pub no_places : (test : ℕ → Bool) (i : ℕ) (xs : List CodedRow) → ((n : ℕ) → n < length xs → test (i + n) ≡ false)
    → rows_at_places test i xs ≡ []
no_places test i [] none = refl
no_places test i (row ∷ xs) none =
    let i0 : i ≡ i + 0 = omega arith in
    let rest = rows_at_places test (suc i) xs in
    cond-false (test i) (row ∷ rest) rest ((λ j. test (i0 j)) ∙ none 0 (omega arith))
    ∙ no_places test (suc i) xs
    (λ n lt. let a : suc i + n ≡ i + suc n = omega arith in (λ j. test (a j)) ∙ none (suc n) (omega arith))

-- a test that the places from one on pass
pub places_from : (test : ℕ → Bool) (i first : ℕ) (xs : List CodedRow)
    → ((n : ℕ) → n < length xs → test (i + n) ≡ not (nat_lt (i + n) first))
    → rows_at_places test i xs ≡ drop (first - i) xs
places_from test i first [] same = sym (drop-nil (first - i))
places_from test i first (row ∷ xs) same =
    let i0 : i ≡ i + 0 = omega arith in
    let i1 : i + 0 ≡ i = omega arith in
    let here : test i ≡ not (nat_lt i first) =
    (λ j. test (i0 j)) ∙ same 0 (omega arith) ∙ λ j. not (nat_lt (i1 j) first) in
    let next = rows_at_places test (suc i) xs in
    let rest : next ≡ drop (first - suc i) xs =
    places_from test (suc i) first xs (λ n lt.
    let a : suc i + n ≡ i + suc n = omega arith in
    let b : i + suc n ≡ suc i + n = omega arith in
    (λ j. test (a j)) ∙ same (suc n) (omega arith) ∙ λ j. not (nat_lt (b j) first)) in
    elim (cases_lt i first) [
      | inl lt ↦
          let below : nat_lt i first ≡ true = grind (arith, nat_tests) in
          let e : suc (first - suc i) ≡ first - i = omega arith in
          cond-false (test i) (row ∷ next) next (here ∙ λ j. not (below j)) ∙ rest ∙ λ j. drop (e j) (row ∷ xs)
      | inr ge ↦
          let above : nat_lt i first ≡ false = grind (arith, nat_tests) in
          let e : first - suc i ≡ 0 = omega arith in
          let z : 0 ≡ first - i = omega arith in
          cond-true (test i) (row ∷ next) next (here ∙ λ j. not (above j))
          ∙ (λ j. row ∷ rest j) ∙ (λ j. row ∷ drop (e j) xs) ∙ λ j. drop (z j) (row ∷ xs)
    ]

-- the rows between two places, from a later one on
pub between_from : (from first end : ℕ) (rows : List CodedRow) → from ≤ first → first ≤ end
    → drop (first - from) (rows_between from end rows) ≡ rows_between first end rows
between_from from first end rows low high =
    let a : end - from ≡ (first - from) + (end - first) = omega arith in
    let b : from + (first - from) ≡ first = omega arith in
    (λ j. drop (first - from) (take (a j) (drop from rows)))
    ∙ drop-take (first - from) (end - first) (drop from rows)
    ∙ (λ j. take (end - first) (drop-drop (first - from) from rows j))
    ∙ λ j. take (end - first) (drop (b j) rows)

pub between_long : (from end : ℕ) (rows : List CodedRow) → from ≤ end → end ≤ length rows
    → length (rows_between from end rows) ≡ end - from
between_long from end rows le within = length-take-le (end - from) (drop from rows) (simp length-drop (omega arith))

-- the rows up to a place and behind it
pub between_parts : (from mid end : ℕ) (rows : List CodedRow) → from ≤ mid → mid ≤ end
    → rows_between from end rows ≡ rows_between from mid rows ++ rows_between mid end rows
between_parts from mid end rows low high =
    let a : end - from ≡ (mid - from) + (end - mid) = omega arith in
    let b : from + (mid - from) ≡ mid = omega arith in
    (λ j. take (a j) (drop from rows))
    ∙ take-add (mid - from) (end - mid) (drop from rows)
    ∙ (λ j. rows_between from mid rows ++ take (end - mid) (drop-drop (mid - from) from rows j))
    ∙ λ j. rows_between from mid rows ++ take (end - mid) (drop (b j) rows)

-- what holds of each row holds of each that passes
pub all_places : (P : CodedRow → Type 0) (test : ℕ → Bool) (i : ℕ) (xs : List CodedRow) → AllByRecursion P xs
    → AllByRecursion P (rows_at_places test i xs)
all_places P test i [] all = tt
all_places P test i (row ∷ xs) all =
    let rest = all_places P test (suc i) xs all.1 in
    let next = rows_at_places test (suc i) xs in
    all_if P (test i) (row ∷ next) next (λ e. (all.0, rest)) (λ e. rest)
