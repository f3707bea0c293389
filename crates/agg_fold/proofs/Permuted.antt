-- Folds over lists with the same elements, and lists parted by two tests.
use Rattle.std.proofs.Common.{◌≡◌, true≢false, ℕ, zero, suc, ◌<◌, Bool, true, false, cond, ◌||◌, List, [], ◌∷◌, ◌++◌, length, filter, fold, get_or, set, All, refl, sym, ap, ◌∙◌, subst, ⊎_elim, arith}
use Rattle.std.specs.List.{swap}
use Rattle.std.specs.List.Sorted.{IsPermutation}
use Rattle.std.proofs.lemmas.List.Elements.{All-head, All-tail}
use Rattle.std.proofs.lemmas.List.Sorted.{IsPermutation-keeps, IsPermutation-refl, IsPermutation-cons, IsPermutation-sym, IsPermutation-trans, IsPermutation-middle}

module _ {A B : Type 0} (F : B → A → B) (comm : (a : B) (x y : A) → F (F a x) y ≡ F (F a y) x) where
  -- an element in front and one further on change places
  exchanged : (a : B) (x y d : A) (xs : List A) (k : ℕ) → k < length xs → get_or xs k d ≡ y → fold F (F a y) (set xs k x) ≡ fold F (F a x) xs
  exchanged a x y d [] k h e = absurd (omega arith)
  exchanged a x y d (z ∷ xs) zero h e = ap (λ (b : B). fold F b xs) (comm a y x ∙ ap (F (F a x)) (sym e))
  exchanged a x y d (z ∷ xs) (suc k) h e =
      ap (λ (b : B). fold F b (set xs k x)) (comm a y z)
      ∙ exchanged (F a z) x y d xs k (omega arith) e
      ∙ ap (λ (b : B). fold F b xs) (comm a z x)

  pub fold_swapped : (a : B) (xs : List A) (i j : ℕ) (d : A) → i < length xs → j < length xs
      → fold F a (set (set xs i (get_or xs j d)) j (get_or xs i d)) ≡ fold F a xs
  fold_swapped a [] i j d p q = absurd (omega arith)
  fold_swapped a (x ∷ xs) zero zero d p q = refl
  fold_swapped a (x ∷ xs) zero (suc j) d p q = exchanged a x (get_or xs j d) d xs j (omega arith) refl
  fold_swapped a (x ∷ xs) (suc i) zero d p q = exchanged a x (get_or xs i d) d xs i (omega arith) refl
  fold_swapped a (x ∷ xs) (suc i) (suc j) d p q = fold_swapped (F a x) xs i j d (omega arith) (omega arith)

  fold_swap : (a : B) (xs : List A) (i j : ℕ) → i < length xs → j < length xs → fold F a (swap xs i j) ≡ fold F a xs
  fold_swap a [] i j p q = absurd (omega arith)
  fold_swap a (x ∷ xs) i j p q = fold_swapped a (x ∷ xs) i j x p q

  pub fold_permuted : (a : B) (xs ys : List A) → IsPermutation xs ys → fold F a ys ≡ fold F a xs
  fold_permuted a xs ys = IsPermutation-keeps xs (λ l. fold F a l ≡ fold F a xs) refl (λ l i j p q h. fold_swap a l i j p q ∙ h) ys

pub fold_filtered : {A B : Type 0} (F : B → A → B) (p : A → Bool) (a : B) (xs : List A) → fold F a (filter p xs) ≡ fold (λ b x. cond (p x) (F b x) b) a xs
fold_filtered F p a [] = refl
fold_filtered {A} {B} F p a (x ∷ xs) = at (p x) ∙ fold_filtered F p (cond (p x) (F a x) a) xs
  where
    at : (b : Bool) → fold F a (cond b (x ∷ filter p xs) (filter p xs)) ≡ fold F (cond b (F a x) a) (filter p xs)
    at true = refl
    at false = refl

-- what passes one of two tests that no element passes both of
module _ {X : Type 0} (p q r : X → Bool) (either : (x : X) → r x ≡ (p x || q x)) (apart : (x : X) → q x ≡ true → p x ≡ false) where
  pub filter_either : (xs : List X) → IsPermutation (filter r xs) (filter p xs ++ filter q xs)
  filter_either [] = IsPermutation-refl []
  filter_either (x ∷ xs) = at (filter_either xs) (p x) (q x) (r x) (either x) (apart x)
    where
      at : IsPermutation (filter r xs) (filter p xs ++ filter q xs) → (b c s : Bool) → s ≡ (b || c) → (c ≡ true → b ≡ false)
          → IsPermutation (cond s (x ∷ filter r xs) (filter r xs)) (cond b (x ∷ filter p xs) (filter p xs) ++ cond c (x ∷ filter q xs) (filter q xs))
      at h true true s e f = absurd (true≢false (f refl))
      at h true false s e f = subst (λ (t : Bool). IsPermutation (cond t (x ∷ filter r xs) (filter r xs)) (x ∷ (filter p xs ++ filter q xs))) (sym e) (IsPermutation-cons x _ _ h)
      at h false true s e f =
          subst (λ (t : Bool). IsPermutation (cond t (x ∷ filter r xs) (filter r xs)) (filter p xs ++ x ∷ filter q xs)) (sym e)
          (IsPermutation-trans _ _ _ (IsPermutation-cons x _ _ h) (IsPermutation-sym _ _ (IsPermutation-middle (filter p xs) x (filter q xs))))
      at h false false s e f = subst (λ (t : Bool). IsPermutation (cond t (x ∷ filter r xs) (filter r xs)) (filter p xs ++ filter q xs)) (sym e) h

-- what all pass
pub filter_all : {X : Type 0} (p : X → Bool) (xs : List X) → All (λ x. p x ≡ true) xs → filter p xs ≡ xs
filter_all p [] h = refl
filter_all p (x ∷ xs) h =
    ap (λ (b : Bool). cond b (x ∷ filter p xs) (filter p xs)) (All-head (λ y. p y ≡ true) x xs h) ∙ ap (λ (l : List _). x ∷ l) (filter_all p xs (All-tail (λ y. p y ≡ true) x xs h))
