-- The least of epochs.
use Rattle.std.proofs.Common.{◌≡◌, ℕ, ◌+◌, ◌≤◌, Bool, true, false, ◌&&◌, List, [], ◌∷◌, ◌++◌, fold, filter, min, nat_lt, if◌then◌else◌, refl, ap, ◌∙◌, arith}
use Rattle.std.proofs.lemmas.Bool.Decides.{nat_tests}
use Rattle.std.specs.List.{list_all}
use Rattle.std.proofs.lemmas.List.Sums.{fold-append}

pub min-lt : (e a b : ℕ) → nat_lt e (min a b) ≡ (nat_lt e a && nat_lt e b)
min-lt e a b = grind (arith, nat_tests)

and-assoc : (a b c : Bool) → ((a && b) && c) ≡ (a && (b && c))
and-assoc true b c = refl
and-assoc false b c = refl

and-true : (a : Bool) → a ≡ (a && true)
and-true true = refl
and-true false = refl

pub lt-fold : (e a : ℕ) (xs : List ℕ) → nat_lt e (fold min a xs) ≡ (nat_lt e a && list_all (nat_lt e) xs)
lt-fold e a [] = and-true (nat_lt e a)
lt-fold e a (x ∷ xs) =
    lt-fold e (min a x) xs
    ∙ ap (λ (b : Bool). b && list_all (nat_lt e) xs) (min-lt e a x)
    ∙ and-assoc (nat_lt e a) (nat_lt e x) (list_all (nat_lt e) xs)

pub fold-rises : (a b : ℕ) (xs : List ℕ) → a ≤ b → fold min a xs ≤ fold min b xs
fold-rises a b [] le = le
fold-rises a b (x ∷ xs) le = fold-rises (min a x) (min b x) xs (omega arith)

pub fold-below : (a : ℕ) (xs : List ℕ) → fold min a xs ≤ a
fold-below a [] = omega arith
fold-below a (x ∷ xs) = let le = fold-below (min a x) xs in omega arith

filter-step : (b : Bool) (a x : ℕ) (xs ys : List ℕ) → fold min (min a x) xs ≤ fold min (min a x) ys
    → fold min a xs ≤ fold min a ys → fold min (min a x) xs ≤ fold min a (if b then x ∷ ys else ys)
filter-step true a x xs ys with_x without_x = with_x
filter-step false a x xs ys with_x without_x = let le = fold-rises (min a x) a xs (omega arith) in omega arith

-- The least of fewer epochs is not below.
pub fold-filter : (p : ℕ → Bool) (a : ℕ) (xs : List ℕ) → fold min a xs ≤ fold min a (filter p xs)
fold-filter p a [] = omega arith
fold-filter p a (x ∷ xs) = filter-step (p x) a x xs (filter p xs) (fold-filter p (min a x) xs) (fold-filter p a xs)

min-both : (a b c : ℕ) → min (min a b) c ≡ min (min a c) b
min-both a b c = omega arith

fold-min : (a b : ℕ) (xs : List ℕ) → min (fold min a xs) b ≡ fold min (min a b) xs
fold-min a b [] = refl
fold-min a b (x ∷ xs) = fold-min (min a x) b xs ∙ ap (λ (n : ℕ). fold min n xs) (min-both a x b)

-- The next epoch that becomes pending leaves the least one as it is.
pub fold-next : (a : ℕ) (xs : List ℕ) → fold min (a + 1) (xs ++ a ∷ []) ≡ fold min a xs
fold-next a xs =
    fold-append min (a + 1) xs (a ∷ [])
    ∙ fold-min (a + 1) a xs
    ∙ ap (λ (n : ℕ). fold min n xs) (smaller a)
  where
    smaller : (n : ℕ) → min (n + 1) n ≡ n
    smaller n = omega arith
