-- What holds of each item of a list holds of each item of its parts.
use Rattle.std.proofs.Common.{◌≡◌, ℕ, zero, suc, ◌+◌, ◌<◌, Bool, true, false, List, [], ◌∷◌, ◌++◌, length, take, drop, get_or, filter, if◌then◌else◌, refl, sym, subst, ◌∙◌, arith}
use Rattle.std.specs.List.{flat_map, AllByRecursion}
use Rattle.std.proofs.lemmas.Bool.{cond-true, cond-false}
use Rattle.std.proofs.lemmas.Grind.{flat_map-append}
use Rattle.std.proofs.lemmas.List.{append-nil, take_more}

pub all_of : {X : Type 0} (P Q : X → Type 0) → ((x : X) → P x → Q x) → (xs : List X) → AllByRecursion P xs
    → AllByRecursion Q xs
all_of P Q f [] all = tt
all_of P Q f (x ∷ xs) all = (f x all.0, all_of P Q f xs all.1)

pub all_append : {X : Type 0} (P : X → Type 0) (xs ys : List X) → AllByRecursion P xs → AllByRecursion P ys
    → AllByRecursion P (xs ++ ys)
all_append P [] ys a b = b
all_append P (x ∷ xs) ys a b = (a.0, all_append P xs ys a.1 b)

pub all_front : {X : Type 0} (P : X → Type 0) (xs ys : List X) → AllByRecursion P (xs ++ ys) → AllByRecursion P xs
all_front P [] ys all = tt
all_front P (x ∷ xs) ys all = (all.0, all_front P xs ys all.1)

pub all_back : {X : Type 0} (P : X → Type 0) (xs ys : List X) → AllByRecursion P (xs ++ ys) → AllByRecursion P ys
all_back P [] ys all = all
all_back P (x ∷ xs) ys all = all_back P xs ys all.1

pub all_at : {X : Type 0} (P : X → Type 0) (xs : List X) (i : ℕ) (x : X) → AllByRecursion P xs → i < length xs
    → x ≡ get_or xs i x → P x
all_at P [] i x all lt is = absurd (omega arith)
all_at P (y ∷ xs) zero x all lt is = subst P (sym is) all.0
all_at P (y ∷ xs) (suc i) x all lt is = all_at P xs i x all.1 (omega arith) is

pub all_take : {X : Type 0} (P : X → Type 0) (n : ℕ) (xs : List X) → AllByRecursion P xs → AllByRecursion P (take n xs)
all_take P zero xs all = tt
all_take P (suc n) [] all = tt
all_take P (suc n) (x ∷ xs) all = (all.0, all_take P n xs all.1)

pub all_drop : {X : Type 0} (P : X → Type 0) (n : ℕ) (xs : List X) → AllByRecursion P xs → AllByRecursion P (drop n xs)
all_drop P zero xs all = all
all_drop P (suc n) [] all = tt
all_drop P (suc n) (x ∷ xs) all = all_drop P n xs all.1

pub all_if : {X : Type 0} (P : X → Type 0) (t : Bool) (xs ys : List X) → (t ≡ true → AllByRecursion P xs)
    → (t ≡ false → AllByRecursion P ys)
    → AllByRecursion P (if t then xs else ys)
all_if P true xs ys a b = a refl
all_if P false xs ys a b = b refl

pub all_flat : {X Y : Type 0} (P : X → Type 0) (Q : Y → Type 0) (f : X → List Y)
    → ((x : X) → P x → AllByRecursion Q (f x)) → (xs : List X) → AllByRecursion P xs
    → AllByRecursion Q (flat_map f xs)
all_flat P Q f each [] all = tt
all_flat P Q f each (x ∷ xs) all = all_append Q (f x) (flat_map f xs) (each x all.0) (all_flat P Q f each xs all.1)

-- a filter that keeps all, and one that keeps none
pub filter_all : {X : Type 0} (P : X → Type 0) (test : X → Bool) → ((x : X) → P x → test x ≡ true) → (xs : List X)
    → AllByRecursion P xs → filter test xs ≡ xs
filter_all P test f [] all = refl
filter_all P test f (x ∷ xs) all =
    cond-true (test x) (x ∷ filter test xs) (filter test xs) (f x all.0) ∙ λ i. x ∷ filter_all P test f xs all.1 i

pub filter_none : {X : Type 0} (P : X → Type 0) (test : X → Bool) → ((x : X) → P x → test x ≡ false) → (xs : List X)
    → AllByRecursion P xs → filter test xs ≡ []
filter_none P test f [] all = refl
filter_none P test f (x ∷ xs) all =
    cond-false (test x) (x ∷ filter test xs) (filter test xs) (f x all.0) ∙ filter_none P test f xs all.1

-- the items of one list among those of several
pub flat_at : {X Y : Type 0} (P : Y → Type 0) (f : X → List Y) (xs : List X) (i : ℕ) (x : X)
    → AllByRecursion P (flat_map f xs) → i < length xs → x ≡ get_or xs i x → AllByRecursion P (f x)
flat_at P f [] i x all lt is = absurd (omega arith)
flat_at P f (y ∷ xs) zero x all lt is =
    subst (λ z. AllByRecursion P (f z)) (sym is) (all_front P (f y) (flat_map f xs) all)
flat_at P f (y ∷ xs) (suc i) x all lt is = flat_at P f xs i x (all_back P (f y) (flat_map f xs) all) (omega arith) is

-- the items up to one more
pub take_item : {X : Type 0} (xs : List X) (i : ℕ) (x : X) → i < length xs → x ≡ get_or xs i x
    → take (i + 1) xs ≡ take i xs ++ x ∷ []
take_item xs i x lt is = take_more xs i x lt ∙ λ k. take i xs ++ sym is k ∷ []

pub flat_more : {X Y : Type 0} (f : X → List Y) (xs : List X) (i : ℕ) (x : X) → i < length xs → x ≡ get_or xs i x
    → flat_map f (take (i + 1) xs) ≡ flat_map f (take i xs) ++ f x
flat_more f xs i x lt is =
    (λ k. flat_map f (take_item xs i x lt is k)) ∙ flat_map-append f (take i xs) (x ∷ [])
    ∙ λ k. flat_map f (take i xs) ++ append-nil (f x) k
