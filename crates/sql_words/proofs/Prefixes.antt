-- The longest front of bytes that pass a test.
use Rattle.std.proofs.Common.{◌≡◌, ℕ, suc, ◌+◌, ◌≤◌, Bool, true, List, [], ◌∷◌, ◌++◌, length, take, drop, refl, arith}
use Rattle.std.specs.List.{list_all, prefix_len}
use Rattle.std.proofs.lemmas.Bool.{and_parts, cond_both}
use Rattle.std.proofs.lemmas.List.Sums.{prefix_len-le-length}
use Rattle.cube_language.specs.Parts.{EndsRun}

-- bytes that pass, before one that does not, are that front
pub prefix_is : (p : ℕ → Bool) (xs ys : List ℕ) → list_all p xs ≡ true → EndsRun p ys → prefix_len p (xs ++ ys) ≡ length xs
prefix_is p [] [] all stops = refl
prefix_is p [] (y ∷ ys) all stops = rw stops refl
prefix_is p (x ∷ xs) ys all stops =
    let both = and_parts (p x) (list_all p xs) all in
    let one : p x ≡ true = both.0 in
    let more = prefix_is p xs ys both.1 stops in
    rw (one, more) (omega arith)

pub prefix_within : (p : ℕ → Bool) (xs : List ℕ) → prefix_len p xs ≤ length xs
prefix_within p xs = prefix_len-le-length p xs

-- a front and what is behind it, one element on
pub front_one : (n x : ℕ) (xs : List ℕ) → take (1 + n) (x ∷ xs) ≡ x ∷ take n xs
front_one n x xs = let e : 1 + n ≡ suc n = omega arith in rw e refl

pub rest_one : (n x : ℕ) (xs : List ℕ) → drop (1 + n) (x ∷ xs) ≡ drop n xs
rest_one n x xs = let e : 1 + n ≡ suc n = omega arith in rw e refl

-- the front passes, and what is behind it stops
pub prefix_passes : (p : ℕ → Bool) (xs : List ℕ) → list_all p (take (prefix_len p xs) xs) ≡ true
prefix_passes p [] = refl
prefix_passes p (x ∷ xs) =
    cond_both (p x) (1 + prefix_len p xs) 0 (λ n. list_all p (take n (x ∷ xs)) ≡ true) (λ one. rw (front_one (prefix_len p xs) x xs, one) (prefix_passes p xs)) (λ none. refl)

pub prefix_stops : (p : ℕ → Bool) (xs : List ℕ) → EndsRun p (drop (prefix_len p xs) xs)
prefix_stops p [] = tt
prefix_stops p (x ∷ xs) =
    cond_both (p x) (1 + prefix_len p xs) 0 (λ n. EndsRun p (drop n (x ∷ xs))) (λ one. rw (rest_one (prefix_len p xs) x xs) (prefix_stops p xs)) (λ none. none)
