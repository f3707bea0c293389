-- A script that is cut in two.
use Rattle.std.proofs.Common.{◌≡◌, ◌∙◌, ℕ, zero, suc, ◌+◌, List, [], ◌∷◌, ◌++◌, length, map, take, drop, refl, ap, arith}
use Rattle.std.specs.List.{AllByRecursion}

pub first-all : {X : Type 0} (P : X → Type 0) (n : ℕ) (xs : List X) → AllByRecursion P xs → AllByRecursion P (take n xs)
first-all P zero xs all = tt
first-all P (suc n) [] all = tt
first-all P (suc n) (x ∷ xs) all = (all.0, first-all P n xs all.1)

pub last-all : {X : Type 0} (P : X → Type 0) (n : ℕ) (xs : List X) → AllByRecursion P xs → AllByRecursion P (drop n xs)
last-all P zero xs all = all
last-all P (suc n) [] all = tt
last-all P (suc n) (x ∷ xs) all = last-all P n xs all.1

pub both-mapped : {X Y : Type 0} (f : X → Y) (n : ℕ) (xs : List X) → map f (take n xs) ++ map f (drop n xs) ≡ map f xs
both-mapped f zero xs = refl
both-mapped f (suc n) [] = refl
both-mapped f (suc n) (x ∷ xs) = ap (λ ys. f x ∷ ys) (both-mapped f n xs)

pub both-long : {X : Type 0} (n : ℕ) (xs : List X) → length (take n xs) + length (drop n xs) ≡ length xs
both-long zero xs = omega arith
both-long (suc n) [] = refl
both-long (suc n) (x ∷ xs) = let e = both-long n xs in omega (arith, e)

-- Cut in two, it says what it said.
pub both-said : {X Y : Type 0} (f : X → Y) (n : ℕ) (xs first last : List X) → first ≡ take n xs → last ≡ drop n xs
    → map f first ++ map f last ≡ map f xs
both-said f n xs first last front behind = (λ i. map f (front i) ++ map f (behind i)) ∙ both-mapped f n xs
