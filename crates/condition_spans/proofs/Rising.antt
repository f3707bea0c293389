-- Numbers in order, each once.
use Rattle.std.proofs.Common.{◌≡◌, ℕ, suc, ◌<◌, Bool, true, false, eqb, List, [], ◌∷◌, refl, sym, subst, ◌∙◌, arith, get_or}
use Rattle.std.specs.Prelude.{Contains, ◌==◌, IsPermutation, IsSorted}
use Rattle.std.specs.List.{list_any, dedup, AllPairs}
use Rattle.std.specs.Ordering.{nat_cmp}
use Rattle.std.proofs.lemmas.Bool.{eq-eqb, eqb-true}
use Rattle.std.proofs.lemmas.List.Elements.{Contains-get_or, recursion_from_All}
use Rattle.std.proofs.lemmas.List.Folds.{Any-from_list_any, list_any_at}
use Rattle.std.proofs.lemmas.List.Kept.{AllPairs-from_increasing, Contains-dedup_nat, Contains-from_dedup}
use Rattle.std.proofs.lemmas.List.Sorted.{Contains-permutation, IsPermutation-sym}
use Rattle.std.proofs.lemmas.Map.Keys.{IsStrictlyIncreasing-dedup}
use Rattle.cube_values.specs.Spans.{Rises}

pub same_bool : (a b : Bool) → (a ≡ true → b ≡ true) → (b ≡ true → a ≡ true) → a ≡ b
same_bool true b f g = sym (f refl)
same_bool false true f g = g refl
same_bool false false f g = refl

any_from_contains : (xs : List ℕ) (x : ℕ) → Contains xs x → list_any (λ c. c == x) xs ≡ true
any_from_contains xs x there =
    list_any_at (λ c. c == x) xs there.0 x there.1 (eq-eqb (get_or xs there.0 x) x there.2)

contains_from_any : (xs : List ℕ) (x : ℕ) → list_any (λ c. c == x) xs ≡ true → Contains xs x
contains_from_any xs x t =
    let any = Any-from_list_any (λ c. c == x) xs t in
    let is : get_or xs any.0 any.1 ≡ x = any.3 ∙ eqb-true any.1 x any.4 in
    subst (λ (y : ℕ). Contains xs y) is (Contains-get_or xs any.0 any.1 any.2)

rises_from_pairs : (xs : List ℕ) → AllPairs (λ x y. x < y) xs → Rises xs
rises_from_pairs [] pairs = tt
rises_from_pairs (x ∷ xs) pairs = (
  recursion_from_All (λ m. x < m) xs (λ k d lt. pairs 0 (suc k) d (omega arith) (omega arith)),
  rises_from_pairs xs (λ i j d lt within. pairs (suc i) (suc j) d (omega arith) (omega arith)),
)

-- Sorted numbers rise strictly once each stands there once.
pub rises_after : (sorted new : List ℕ) → IsSorted nat_cmp sorted → new ≡ dedup eqb sorted → Rises new
rises_after sorted new in_order is =
    subst (λ (xs : List ℕ). Rises xs) (sym is)
    (rises_from_pairs (dedup eqb sorted)
    (AllPairs-from_increasing (dedup eqb sorted) (IsStrictlyIncreasing-dedup sorted in_order)))

-- They are the same numbers.
pub same_after : (old sorted new : List ℕ) → IsPermutation old sorted → new ≡ dedup eqb sorted
    → (coord : ℕ) → list_any (λ c. c == coord) new ≡ list_any (λ c. c == coord) old
same_after old sorted new moved is coord =
    same_bool (list_any (λ c. c == coord) new) (list_any (λ c. c == coord) old)
    (λ t. any_from_contains old coord
    (Contains-permutation sorted old coord (IsPermutation-sym old sorted moved)
    (Contains-from_dedup eqb sorted coord
    (subst (λ (xs : List ℕ). Contains xs coord) is (contains_from_any new coord t)))))
    (λ t. any_from_contains new coord
    (subst (λ (xs : List ℕ). Contains xs coord) (sym is)
    (Contains-dedup_nat sorted coord
    (Contains-permutation old sorted coord moved (contains_from_any old coord t)))))
