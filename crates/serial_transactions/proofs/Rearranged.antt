-- Lists in another order, by exchanges of neighbours.
use Rattle.std.proofs.Common.{◌≡◌, ◌∙◌, Bool, true, false, ◌||◌, cond, List, [], ◌∷◌, ◌++◌, filter, refl, ap}
use Rattle.std.specs.List.{flat_map, list_any}
use Rattle.std.specs.List.Sorted.{IsPermutation}
use Rattle.std.proofs.lemmas.List.Sorted.{IsPermutation-cons, IsPermutation-middle, IsPermutation-refl, IsPermutation-trans}

pub data Rearranged {X : Type 0} : List X → List X → Type 0 where
  same : (xs : List X) → Rearranged xs xs
  keep : (x : X) (xs ys : List X) → Rearranged xs ys → Rearranged (x ∷ xs) (x ∷ ys)
  exchange : (x y : X) (xs : List X) → Rearranged (x ∷ y ∷ xs) (y ∷ x ∷ xs)
  joined : (xs ys zs : List X) → Rearranged xs ys → Rearranged ys zs → Rearranged xs zs

pub permuted : {X : Type 0} (xs ys : List X) → Rearranged xs ys → IsPermutation xs ys
permuted xs ys (same _) = IsPermutation-refl xs
permuted _ _ (keep x xs ys r) = IsPermutation-cons x xs ys (permuted xs ys r)
permuted _ _ (exchange x y xs) = IsPermutation-middle (x ∷ []) y xs
permuted _ _ (joined xs ys zs r t) = IsPermutation-trans xs ys zs (permuted xs ys r) (permuted ys zs t)

-- Behind the same front.
pub behind : {X : Type 0} (front xs ys : List X) → Rearranged xs ys → Rearranged (front ++ xs) (front ++ ys)
behind [] xs ys r = r
behind (x ∷ front) xs ys r = keep x (front ++ xs) (front ++ ys) (behind front xs ys r)

-- An item moves past a list, and a list past another.
pub past : {X : Type 0} (x : X) (front xs : List X) → Rearranged (x ∷ (front ++ xs)) (front ++ x ∷ xs)
past x [] xs = same (x ∷ xs)
past x (y ∷ front) xs =
    joined (x ∷ y ∷ (front ++ xs)) (y ∷ x ∷ (front ++ xs)) (y ∷ (front ++ x ∷ xs)) (exchange x y (front ++ xs))
    (keep y (x ∷ (front ++ xs)) (front ++ x ∷ xs) (past x front xs))

lists-exchanged : {X : Type 0} (us vs xs : List X) → Rearranged (us ++ (vs ++ xs)) (vs ++ (us ++ xs))
lists-exchanged [] vs xs = same (vs ++ xs)
lists-exchanged (u ∷ us) vs xs =
    joined (u ∷ (us ++ (vs ++ xs))) (u ∷ (vs ++ (us ++ xs))) (vs ++ u ∷ (us ++ xs))
    (keep u (us ++ (vs ++ xs)) (vs ++ (us ++ xs)) (lists-exchanged us vs xs)) (past u vs (us ++ xs))

-- What is made of each item.
pub mapped : {X Y : Type 0} (f : X → List Y) (xs ys : List X) → Rearranged xs ys
    → Rearranged (flat_map f xs) (flat_map f ys)
mapped f xs ys (same _) = same (flat_map f xs)
mapped f _ _ (keep x xs ys r) = behind (f x) (flat_map f xs) (flat_map f ys) (mapped f xs ys r)
mapped f _ _ (exchange x y xs) = lists-exchanged (f x) (f y) (flat_map f xs)
mapped f _ _ (joined xs ys zs r t) =
    joined (flat_map f xs) (flat_map f ys) (flat_map f zs) (mapped f xs ys r) (mapped f ys zs t)

-- What passes a test.
pub passed : {X : Type 0} (p : X → Bool) (xs ys : List X) → Rearranged xs ys → Rearranged (filter p xs) (filter p ys)
passed p xs ys (same _) = same (filter p xs)
passed {X} p _ _ (keep x xs ys r) = at (p x) (passed p xs ys r)
  where
    at : (b : Bool) → Rearranged (filter p xs) (filter p ys)
        → Rearranged (cond b (x ∷ filter p xs) (filter p xs)) (cond b (x ∷ filter p ys) (filter p ys))
    at true rest = keep x (filter p xs) (filter p ys) rest
    at false rest = rest
passed {X} p _ _ (exchange x y xs) = at (p x) (p y)
  where
    at : (b c : Bool)
        → Rearranged (cond b (x ∷ cond c (y ∷ filter p xs) (filter p xs)) (cond c (y ∷ filter p xs) (filter p xs)))
        (cond c (y ∷ cond b (x ∷ filter p xs) (filter p xs)) (cond b (x ∷ filter p xs) (filter p xs)))
    at true true = exchange x y (filter p xs)
    at true false = same (x ∷ filter p xs)
    at false true = same (y ∷ filter p xs)
    at false false = same (filter p xs)
passed p _ _ (joined xs ys zs r t) =
    joined (filter p xs) (filter p ys) (filter p zs) (passed p xs ys r) (passed p ys zs t)

-- Whether any passes.
pub any-same : {X : Type 0} (p : X → Bool) (xs ys : List X) → Rearranged xs ys → list_any p xs ≡ list_any p ys
any-same p xs ys (same _) = refl
any-same p _ _ (keep x xs ys r) = ap (λ (b : Bool). p x || b) (any-same p xs ys r)
any-same p _ _ (exchange x y xs) = at (p x) (p y) (list_any p xs)
  where
    at : (a b c : Bool) → (a || (b || c)) ≡ (b || (a || c))
    at true true c = refl
    at true false c = refl
    at false true c = refl
    at false false c = refl
any-same p _ _ (joined xs ys zs r t) = any-same p xs ys r ∙ any-same p ys zs t
