-- The first place at which a test passes.
use Rattle.std.proofs.Common.{◌≡◌, ℕ, zero, suc, ◌+◌, ◌-◌, ◌<◌, ◌≤◌, Bool, true, false, cond, List, [], ◌∷◌, length, get_or, Some, None, refl, sym, ap, ◌∙◌, inl, inr, arith}
use Rattle.std.specs.Prelude.{find, slice_get, ◌||◌}
use Rattle.std.specs.List.{list_any, position_from}
use Rattle.std.proofs.lemmas.Bool.{cases_Bool}

-- A place that is found, counted from i.
pub record IsFound {K : Type 0} (t : K → Bool) (i : ℕ) (xs : List K) (k : ℕ) : Type 0 where
  pub from : i ≤ k
  pub below : k < i + length xs
  pub passes : (d : K) → t (get_or xs (k - i) d) ≡ true

pub found : {K : Type 0} (t : K → Bool) (i : ℕ) (xs : List K) (k : ℕ) → position_from t i xs ≡ Some k → IsFound t i xs k
found t i [] k is = absurd cc
found t i (x ∷ xs) k is = elim (cases_Bool (t x)) [
  | inl there ↦
      let first : Some i ≡ Some k = rw there at is in
      let same : i ≡ k = cc in
      let none : k - i ≡ 0 = omega arith in
      record { from = omega arith; below = omega arith; passes = λ d. (λ j. t (get_or (x ∷ xs) (none j) d)) ∙ there }
  | inr never ↦
      let later : position_from t (i + 1) xs ≡ Some k = rw never at is in
      let rest = found t (i + 1) xs k later in
      let from : i + 1 ≤ k = rest.from in
      let below : k < (i + 1) + length xs = rest.below in
      let one : k - i ≡ suc (k - (i + 1)) = omega arith in
      record {
        from = omega arith;
        below = omega arith;
        passes = λ d. (λ j. t (get_or (x ∷ xs) (one j) d)) ∙ rest.passes d;
      }
]

-- A test that passes at a place and at none before finds that place.
pub finds : {K : Type 0} (t : K → Bool) (i : ℕ) (xs : List K) (k : ℕ) (d : K) → k < length xs
    → t (get_or xs k d) ≡ true → ((j : ℕ) → j < k → t (get_or xs j d) ≡ false)
    → (position_from t i xs ≡ Some (i + k)) × (find t xs ≡ Some (get_or xs k d))
finds t i [] k d lt there never = absurd (omega arith)
finds t i (x ∷ xs) zero d lt there never =
    let here : t x ≡ true = there in
    let sum : i ≡ i + 0 = omega arith in (
      (λ j. cond (here j) (Some i) (position_from t (i + 1) xs)) ∙ ap Some sum,
      (λ j. cond (here j) (Some x) (find t xs)),
    )
finds t i (x ∷ xs) (suc k) d lt there never =
    let first : t x ≡ false = never 0 (omega arith) in
    let rest = finds t (i + 1) xs k d (omega arith) there (λ j before. never (suc j) (omega arith)) in
    let sum : (i + 1) + k ≡ i + suc k = omega arith in (
      (λ j. cond (first j) (Some i) (position_from t (i + 1) xs)) ∙ rest.0 ∙ ap Some sum,
      (λ j. cond (first j) (Some x) (find t xs)) ∙ rest.1,
    )

-- Where no place is found, the test finds nothing.
pub finds_nothing : {K : Type 0} (t : K → Bool) (i : ℕ) (xs : List K) → position_from t i xs ≡ None → find t xs ≡ None
finds_nothing t i [] none = refl
finds_nothing t i (x ∷ xs) none = elim (cases_Bool (t x)) [
  | inl there ↦ let some = rw there at none in absurd cc
  | inr never ↦ (λ j. cond (never j) (Some x) (find t xs)) ∙ finds_nothing t (i + 1) xs (rw never at none)
]

-- A test that finds nothing passes none.
pub none_passes : {K : Type 0} (t : K → Bool) (xs : List K) → find t xs ≡ None → list_any t xs ≡ false
none_passes t [] none = refl
none_passes t (x ∷ xs) none = elim (cases_Bool (t x)) [
  | inl there ↦ let some = rw there at none in absurd cc
  | inr never ↦ (λ j. never j || list_any t xs) ∙ none_passes t xs (rw never at none)
]

-- What stands at the place that is found is what the test finds.
pub finds_there : {K : Type 0} (t : K → Bool) (i : ℕ) (xs : List K) (k : ℕ) → position_from t i xs ≡ Some k
    → find t xs ≡ slice_get xs (k - i)
finds_there t i [] k is = absurd cc
finds_there t i (x ∷ xs) k is = elim (cases_Bool (t x)) [
  | inl there ↦
      let first : Some i ≡ Some k = rw there at is in
      let same : i ≡ k = cc in
      let none : k - i ≡ 0 = omega arith in
      (λ j. cond (there j) (Some x) (find t xs)) ∙ (λ j. slice_get (x ∷ xs) (sym none j))
  | inr never ↦
      let later : position_from t (i + 1) xs ≡ Some k = rw never at is in
      let from : i + 1 ≤ k = (found t (i + 1) xs k later).from in
      let one : k - i ≡ suc (k - (i + 1)) = omega arith in
      (λ j. cond (never j) (Some x) (find t xs)) ∙ finds_there t (i + 1) xs k later
      ∙ (λ j. slice_get (x ∷ xs) (sym one j))
]
