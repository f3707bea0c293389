-- Facts on the items of lists, place by place.
use Rattle.std.proofs.Common.{◌≡◌, ◌<◌, ℕ, zero, suc, List, [], ◌∷◌, ◌++◌, ◌⊎◌, length, map, slice_get, Some, inl, inr, refl, ap, arith}
use Rattle.std.specs.List.{zip, AllZip, AllByRecursion}
use Rattle.std.proofs.lemmas.Option.{none-some, same_Some}

pub zip-by-places : {A B : Type 0} (R : A → B → Type 0) (xs : List A) (ys : List B) → length ys ≡ length xs
    → ((k : ℕ) (x : A) (y : B) → slice_get xs k ≡ Some x → slice_get ys k ≡ Some y → R x y) → AllZip R xs ys
zip-by-places R [] [] long each = tt
zip-by-places R [] (y ∷ ys) long each = absurd (omega (arith, long))
zip-by-places R (x ∷ xs) [] long each = absurd (omega (arith, long))
zip-by-places R (x ∷ xs) (y ∷ ys) long each =
    (each zero x y refl refl, zip-by-places R xs ys (omega (arith, long)) (λ k. each (suc k)))

pub all-by-places : {A : Type 0} (P : A → Type 0) (xs : List A) → ((k : ℕ) (x : A) → slice_get xs k ≡ Some x → P x)
    → AllByRecursion P xs
all-by-places P [] each = tt
all-by-places P (x ∷ xs) each = (each zero x refl, all-by-places P xs (λ k. each (suc k)))

pub at-place : {A : Type 0} (P : A → Type 0) (xs : List A) (k : ℕ) (x : A) → AllByRecursion P xs
    → slice_get xs k ≡ Some x → P x
at-place P [] k x all is = absurd (none-some x is)
at-place P (y ∷ xs) zero x all is = coe 0 1 (i. P (same_Some y x is i)) all.0
at-place P (y ∷ xs) (suc k) x all is = at-place P xs k x all.1 is

-- The items that stand side by side.
pub zipped : {A B : Type 0} (xs : List A) (ys : List B) (k : ℕ) (p : A × B) → slice_get (zip xs ys) k ≡ Some p
    → (slice_get xs k ≡ Some p.0) × (slice_get ys k ≡ Some p.1)
zipped [] ys k p is = absurd (none-some p is)
zipped (x ∷ xs) [] k p is = absurd (none-some p is)
zipped {A} {B} (x ∷ xs) (y ∷ ys) zero p is =
    let same = same_Some (x, y) p is in
    (ap (λ (q : A × B). Some q.0) same, ap (λ (q : A × B). Some q.1) same)
zipped (x ∷ xs) (y ∷ ys) (suc k) p is = zipped xs ys k p is

-- What a mapped item comes from.
pub record ComesFrom {A B : Type 0} (f : A → B) (xs : List A) (k : ℕ) (y : B) : Type 0 where
  pub item : A
  pub there : slice_get xs k ≡ Some item
  pub gives : f item ≡ y

pub mapped : {A B : Type 0} (f : A → B) (xs : List A) (k : ℕ) (y : B) → slice_get (map f xs) k ≡ Some y
    → ComesFrom f xs k y
mapped f [] k y is = absurd (none-some y is)
mapped f (x ∷ xs) zero y is = record { item = x; there = refl; gives = same_Some (f x) y is }
mapped f (x ∷ xs) (suc k) y is =
    let rest = mapped f xs k y is in
    record { item = rest.item; there = rest.there; gives = rest.gives }

-- An item of two lists in a row is of the first, or of the second.
pub in-either : {A : Type 0} (xs ys : List A) (k : ℕ) (x : A) → slice_get (xs ++ ys) k ≡ Some x
    → (slice_get xs k ≡ Some x) ⊎ ((j : ℕ) × (slice_get ys j ≡ Some x))
in-either [] ys k x is = inr (k, is)
in-either (y ∷ xs) ys zero x is = inl is
in-either (y ∷ xs) ys (suc k) x is = in-either xs ys k x is

pub at-places : {A B : Type 0} (R : A → B → Type 0) (xs : List A) (ys : List B) (k : ℕ) (x : A) (y : B) → AllZip R xs ys
    → slice_get xs k ≡ Some x → slice_get ys k ≡ Some y → R x y
at-places R [] ys k x y all is_x is_y = absurd (none-some x is_x)
at-places R (a ∷ xs) [] k x y all is_x is_y = absurd (none-some y is_y)
at-places R (a ∷ xs) (b ∷ ys) zero x y all is_x is_y =
    coe 0 1 (i. R (same_Some a x is_x i) (same_Some b y is_y i)) all.0
at-places R (a ∷ xs) (b ∷ ys) (suc k) x y all is_x is_y = at-places R xs ys k x y all.1 is_x is_y

pub zip-append : {A B : Type 0} (R : A → B → Type 0) (xs more : List A) (ys others : List B) → AllZip R xs ys
    → AllZip R more others → AllZip R (xs ++ more) (ys ++ others)
zip-append R [] more [] others first second = second
zip-append R [] more (y ∷ ys) others first second = absurd first
zip-append R (x ∷ xs) more [] others first second = absurd first
zip-append R (x ∷ xs) more (y ∷ ys) others first second = (first.0, zip-append R xs more ys others first.1 second)

pub zip-long : {A B : Type 0} (xs : List A) (ys : List B) → length ys ≡ length xs → length (zip xs ys) ≡ length xs
zip-long [] ys long = refl
zip-long (x ∷ xs) [] long = absurd (omega (arith, long))
zip-long (x ∷ xs) (y ∷ ys) long = let rest = zip-long xs ys (omega (arith, long)) in omega (arith, rest)

-- There is an item at each place.
pub some-at : {A : Type 0} (xs : List A) (k : ℕ) → k < length xs → (x : A) × (slice_get xs k ≡ Some x)
some-at [] k within = absurd (omega (arith, within))
some-at (x ∷ xs) zero within = (x, refl)
some-at (x ∷ xs) (suc k) within = some-at xs k (omega (arith, within))

pub side-by-side : {A B : Type 0} (xs : List A) (ys : List B) (k : ℕ) (x : A) (y : B) → slice_get xs k ≡ Some x
    → slice_get ys k ≡ Some y → slice_get (zip xs ys) k ≡ Some (x, y)
side-by-side [] ys k x y is_x is_y = absurd (none-some x is_x)
side-by-side (a ∷ xs) [] k x y is_x is_y = absurd (none-some y is_y)
side-by-side (a ∷ xs) (b ∷ ys) zero x y is_x is_y = λ i. Some (same_Some a x is_x i, same_Some b y is_y i)
side-by-side (a ∷ xs) (b ∷ ys) (suc k) x y is_x is_y = side-by-side xs ys k x y is_x is_y
