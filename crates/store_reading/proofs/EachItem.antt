-- A list whose items are changed one after the other, each by the item of another list at its place.
use Rattle.std.proofs.Common.{◌≡◌, ℕ, zero, suc, ◌+◌, ◌<◌, ◌≤◌, List, [], ◌∷◌, ◌++◌, length, map, take, drop, get_or, set, refl, ap, ◌∙◌, arith}
use Rattle.std.specs.List.{zip}

-- The list after so many changes.
abbrev pub half_changed : {A B : Type 0} → (A → B → A) → List A → List B → ℕ → List A
half_changed change xs ys zero = xs
half_changed change [] ys (suc i) = []
half_changed change (x ∷ xs) [] (suc i) = x ∷ xs
half_changed change (x ∷ xs) (y ∷ ys) (suc i) = change x y ∷ half_changed change xs ys i

pub half-length : {A B : Type 0} (change : A → B → A) (xs : List A) (ys : List B) (i : ℕ) → length (half_changed change xs ys i) ≡ length xs
half-length change xs ys zero = refl
half-length change [] ys (suc i) = refl
half-length change (x ∷ xs) [] (suc i) = refl
half-length change (x ∷ xs) (y ∷ ys) (suc i) = ap suc (half-length change xs ys i)

-- The item at the place that is not yet changed.
pub half-here : {A B : Type 0} (change : A → B → A) (xs : List A) (ys : List B) (i : ℕ) (d : A) → get_or (half_changed change xs ys i) i d ≡ get_or xs i d
half-here change xs ys zero d = refl
half-here change [] ys (suc i) d = refl
half-here change (x ∷ xs) [] (suc i) d = refl
half-here change (x ∷ xs) (y ∷ ys) (suc i) d = half-here change xs ys i d

pub half-more : {A B : Type 0} (change : A → B → A) (xs : List A) (ys : List B) (i : ℕ) (d : A) (e : B) → i < length xs → i < length ys
    → set (half_changed change xs ys i) i (change (get_or xs i d) (get_or ys i e)) ≡ half_changed change xs ys (suc i)
half-more change [] ys i d e lt within = absurd (omega arith)
half-more change (x ∷ xs) [] i d e lt within = absurd (omega arith)
half-more change (x ∷ xs) (y ∷ ys) zero d e lt within = refl
half-more change (x ∷ xs) (y ∷ ys) (suc i) d e lt within = ap (λ (l : List _). change x y ∷ l) (half-more change xs ys i d e (omega arith) (omega arith))

pub half-done : {A B : Type 0} (change : A → B → A) (xs : List A) (ys : List B) (i : ℕ) → length xs ≡ length ys → length xs ≤ i
    → half_changed change xs ys i ≡ map (λ c. change c.0 c.1) (zip xs ys)
half-done change [] [] zero same le = refl
half-done change [] [] (suc i) same le = refl
half-done change [] (y ∷ ys) i same le = absurd (omega arith)
half-done change (x ∷ xs) [] i same le = absurd (omega arith)
half-done change (x ∷ xs) (y ∷ ys) zero same le = absurd (omega arith)
half-done change (x ∷ xs) (y ∷ ys) (suc i) same le = ap (λ (l : List _). change x y ∷ l) (half-done change xs ys i (omega arith) (omega arith))

-- One item more, as a loop changes it.
pub changed_more : {A B : Type 0} (change : A → B → A) (xs current : List A) (ys : List B) (i : ℕ) (here new : A) (item : B) → current ≡ half_changed change xs ys i
    → here ≡ get_or current i here → item ≡ get_or ys i item → new ≡ change here item → length xs ≡ length ys → i < length ys → set current i new ≡ half_changed change xs ys (i + 1)
changed_more change xs current ys i here new item so_far here-is item-is new-is same lt =
    let was : here ≡ get_or xs i here = here-is ∙ ap (λ (l : List _). get_or l i here) so_far ∙ half-here change xs ys i here in
    let becomes : new ≡ change (get_or xs i here) (get_or ys i item) = new-is ∙ (λ j. change (was j) (item-is j)) in
    (λ j. set (so_far j) i (becomes j)) ∙ half-more change xs ys i here item (omega (arith, same, lt)) lt
    ∙ ap (half_changed change xs ys) (plus_one i)
  where
    plus_one : (n : ℕ) → suc n ≡ n + 1
    plus_one n = omega arith
