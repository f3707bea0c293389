-- Lists whose items are made of those of two others, place by place.
use Rattle.std.proofs.Common.{◌≡◌, ℕ, zero, suc, ◌<◌, List, [], ◌∷◌, ◌++◌, length, map, get_or, Some, refl, ap, arith}
use Rattle.std.specs.Prelude.{slice_get}
use Rattle.std.specs.List.{zip, AllZip}
use Rattle.std.proofs.lemmas.Option.{none-some, same_Some}

pub zipped_at : {A B C : Type 0} (f : A → B → C) (xs : List A) (ys : List B) (i : ℕ) (a : A) (b : B) (c : C) → i < length xs → i < length ys
    → get_or (map (λ d. f d.0 d.1) (zip xs ys)) i c ≡ f (get_or xs i a) (get_or ys i b)
zipped_at f [] ys i a b c left right = absurd (omega arith)
zipped_at f (x ∷ xs) [] i a b c left right = absurd (omega arith)
zipped_at f (x ∷ xs) (y ∷ ys) zero a b c left right = refl
zipped_at f (x ∷ xs) (y ∷ ys) (suc i) a b c left right = zipped_at f xs ys i a b c (omega arith) (omega arith)

pub zipped_long : {A B C : Type 0} (f : A → B → C) (xs : List A) (ys : List B) → length xs ≡ length ys → length (map (λ d. f d.0 d.1) (zip xs ys)) ≡ length ys
zipped_long f [] [] same = refl
zipped_long f [] (y ∷ ys) same = absurd (omega arith)
zipped_long f (x ∷ xs) [] same = absurd (omega arith)
zipped_long f (x ∷ xs) (y ∷ ys) same = ap suc (zipped_long f xs ys (omega arith))

pub fit_at : {A B : Type 0} (R : A → B → Type 0) (xs : List A) (ys : List B) (i : ℕ) (a : A) (b : B) → AllZip R xs ys → i < length ys
    → R (get_or xs i a) (get_or ys i b)
fit_at R [] [] i a b all lt = absurd (omega arith)
fit_at R [] (y ∷ ys) i a b all lt = absurd all
fit_at R (x ∷ xs) [] i a b all lt = absurd all
fit_at R (x ∷ xs) (y ∷ ys) zero a b all lt = all.0
fit_at R (x ∷ xs) (y ∷ ys) (suc i) a b all lt = fit_at R xs ys i a b all.1 (omega arith)

pub fit_append : {A B : Type 0} (R : A → B → Type 0) (xs more : List A) (ys others : List B) → AllZip R xs ys → AllZip R more others → AllZip R (xs ++ more) (ys ++ others)
fit_append R [] more [] others all rest = rest
fit_append R [] more (y ∷ ys) others all rest = absurd all
fit_append R (x ∷ xs) more [] others all rest = absurd all
fit_append R (x ∷ xs) more (y ∷ ys) others all rest = (all.0, fit_append R xs more ys others all.1 rest)

pub fit_weaker : {A B : Type 0} (R S : A → B → Type 0) → ((x : A) (y : B) → R x y → S x y) → (xs : List A) (ys : List B) → AllZip R xs ys → AllZip S xs ys
fit_weaker R S to [] [] all = tt
fit_weaker R S to [] (y ∷ ys) all = absurd all
fit_weaker R S to (x ∷ xs) [] all = absurd all
fit_weaker R S to (x ∷ xs) (y ∷ ys) all = (to x y all.0, fit_weaker R S to xs ys all.1)

-- ---- items at a place

pub fit_get : {A B : Type 0} (R : A → B → Type 0) (xs : List A) (ys : List B) (k : ℕ) (x : A) (y : B) → AllZip R xs ys
    → slice_get xs k ≡ Some x → slice_get ys k ≡ Some y → R x y
fit_get R [] ys k x y all left right = absurd (none-some x left)
fit_get R (a ∷ xs) [] k x y all left right = absurd (none-some y right)
fit_get R (a ∷ xs) (b ∷ ys) zero x y all left right = coe 0 1 (i. R (same_Some a x left i) (same_Some b y right i)) all.0
fit_get R (a ∷ xs) (b ∷ ys) (suc k) x y all left right = fit_get R xs ys k x y all.1 left right

pub zip_get : {A B : Type 0} (xs : List A) (ys : List B) (k : ℕ) (x : A) (y : B) → slice_get xs k ≡ Some x → slice_get ys k ≡ Some y
    → slice_get (zip xs ys) k ≡ Some (x, y)
zip_get [] ys k x y left right = absurd (none-some x left)
zip_get (a ∷ xs) [] k x y left right = absurd (none-some y right)
zip_get (a ∷ xs) (b ∷ ys) zero x y left right = λ i. Some (same_Some a x left i, same_Some b y right i)
zip_get (a ∷ xs) (b ∷ ys) (suc k) x y left right = zip_get xs ys k x y left right

-- An item that is made of two has both.
pub record IsMadeOf {A B C : Type 0} (f : A → B → C) (xs : List A) (ys : List B) (k : ℕ) (z : C) : Type 0 where
  pub one : A
  pub other : B
  pub left : slice_get xs k ≡ Some one
  pub right : slice_get ys k ≡ Some other
  pub is : f one other ≡ z

pub made_of : {A B C : Type 0} (f : A → B → C) (xs : List A) (ys : List B) (k : ℕ) (z : C)
    → slice_get (map (λ d. f d.0 d.1) (zip xs ys)) k ≡ Some z → IsMadeOf f xs ys k z
made_of f [] ys k z at = absurd (none-some z at)
made_of f (x ∷ xs) [] k z at = absurd (none-some z at)
made_of f (x ∷ xs) (y ∷ ys) zero z at = record { one = x; other = y; left = refl; right = refl; is = same_Some (f x y) z at }
made_of f (x ∷ xs) (y ∷ ys) (suc k) z at =
    let rest = made_of f xs ys k z at in
    record { one = rest.one; other = rest.other; left = rest.left; right = rest.right; is = rest.is }

pub front_get : {A : Type 0} (xs more : List A) (k : ℕ) → k < length xs → slice_get (xs ++ more) k ≡ slice_get xs k
front_get [] more k lt = absurd (omega arith)
front_get (x ∷ xs) more zero lt = refl
front_get (x ∷ xs) more (suc k) lt = front_get xs more k (omega arith)
