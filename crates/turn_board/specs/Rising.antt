-- Lists that rise by a number of each item.
use Rattle.std.specs.Prelude.{ℕ, Bool, false, cond, leb, ltb, zero, suc, List, [], ◌∷◌}

module _ {X : Type 0} (key : X → ℕ) where
  -- One more item in a list that rises by the key.
  abbrev pub rising_with : X → List X → List X
  rising_with x [] = x ∷ []
  rising_with x (y ∷ ys) = cond (ltb (key x) (key y)) (x ∷ y ∷ ys) (y ∷ rising_with x ys)

  -- The items of both lists, in a list that rises by the key.
  abbrev pub rising_union : List X → List X → List X
  rising_union xs [] = xs
  rising_union xs (y ∷ ys) = rising_union (rising_with y xs) ys

-- A number stands for itself.
abbrev pub itself : ℕ → ℕ
itself n = n

-- So many numbers, from one on.
abbrev pub numbers_from : ℕ → ℕ → List ℕ
numbers_from from zero = []
numbers_from from (suc count) = from ∷ numbers_from (suc from) count

-- There is a first number, and it is not above n.
abbrev pub starts_within : ℕ → List ℕ → Bool
starts_within n [] = false
starts_within n (x ∷ xs) = leb x n
