-- Elements of a list that change one after the other.
use borrow.Author.Count.{below_more}
use Rattle.std.proofs.Common.{◌≡◌, ℕ, ◌+◌, ◌<◌, ◌≤◌, List, [], ◌∷◌, ◌++◌, length, get_or, set, take, sym, refl, ap, ◌∙◌, subst, arith}
use Rattle.std.proofs.Math.Seq.{take-append_seam}
use Rattle.std.proofs.lemmas.List.{get_or-set_same, get_or-set_other, get_or_default, get_or_append_left, get_or_push, length-append}

-- A list that a part of it was written back into, which is all of it.
pub taken : {X : Type 0} (n : ℕ) (xs ys : List X) → length xs ≡ n → take n (xs ++ ys) ≡ xs
taken n xs ys long = ap (λ m. take m (xs ++ ys)) (sym long) ∙ take-append_seam xs ys

module _ {X : Type 0} (R : ℕ → X → X → Type 0) where
  -- The first are changed so, and the others are as they were.
  pub record AreChanged (k : ℕ) (xs ys : List X) : Type 0 where
    pub later : (j : ℕ) (d : X) → k ≤ j → get_or ys j d ≡ get_or xs j d
    pub changed : (j : ℕ) (d : X) → j < k → R j (get_or xs j d) (get_or ys j d)

  pub change_next : (k : ℕ) (xs ys : List X) (x y : X) → AreChanged k xs ys → k < length ys → x ≡ get_or ys k x → R k x y
      → AreChanged (k + 1) xs (set ys k y)
  change_next k xs ys x y so_far lt is made = record {
    later = λ j d le. get_or-set_other ys k j y d (λ e. omega arith) ∙ so_far.later j d (omega arith);
    changed = λ j d below. below_more (λ i. R i (get_or xs i d) (get_or (set ys k y) i d)) k
        (λ i u. subst (R i (get_or xs i d)) (sym (get_or-set_other ys k i y d (λ e. omega arith))) (so_far.changed i d u))
        (subst (R k (get_or xs k d)) (sym (get_or-set_same ys k y d lt))
        (subst (λ z. R k z y) (is ∙ get_or_default ys k x d lt ∙ so_far.later k d (omega arith)) made))
        j (omega arith);
  }

module _ {X : Type 0} where
  -- Of a list with one more at its end: one of the others, and that one.

  first_of : (xs ys : List X) (x : X) (k : ℕ) (d : X) → xs ≡ ys ++ x ∷ [] → k < length ys → get_or xs k d ≡ get_or ys k d
  first_of xs ys x k d is lt = ap (λ l. get_or l k d) is ∙ get_or_append_left ys (x ∷ []) d k lt

  last_of : (xs ys : List X) (x d : X) → xs ≡ ys ++ x ∷ [] → get_or xs (length ys) d ≡ x
  last_of xs ys x d is = ap (λ l. get_or l (length ys) d) is ∙ get_or_push ys x d (length ys) refl

  pub one_more : (xs ys : List X) (x : X) → xs ≡ ys ++ x ∷ [] → length xs ≡ length ys + 1
  one_more xs ys x is = ap (λ l. length l) is ∙ length-append ys (x ∷ [])

  -- What holds of each by its place holds of the others, and of that one.

  pub holds_of_first : (P : ℕ → X → Type 0) (xs ys : List X) (x : X) → xs ≡ ys ++ x ∷ []
      → ((k : ℕ) (d : X) → k < length xs → P k (get_or xs k d)) → (k : ℕ) (d : X) → k < length ys → P k (get_or ys k d)
  holds_of_first P xs ys x is each k d lt = let long = one_more xs ys x is in
      subst (P k) (first_of xs ys x k d is lt) (each k d (omega arith))

  pub holds_of_last : (P : ℕ → X → Type 0) (xs ys : List X) (x : X) → xs ≡ ys ++ x ∷ []
      → ((k : ℕ) (d : X) → k < length xs → P k (get_or xs k d)) → P (length ys) x
  holds_of_last P xs ys x is each = let long = one_more xs ys x is in
      subst (P (length ys)) (last_of xs ys x x is) (each (length ys) x (omega arith))

  -- The others were changed so, and that one.
  pub change_last : (R : X → X → Type 0) (xs ys zs : List X) (x y : X) → xs ≡ ys ++ x ∷ [] → length zs ≡ length ys
      → ((k : ℕ) (d : X) → k < length ys → R (get_or ys k d) (get_or zs k d)) → R x y
      → (k : ℕ) (d : X) → k < length xs → R (get_or xs k d) (get_or (zs ++ y ∷ []) k d)
  change_last R xs ys zs x y is long each last k d lt =
      let more = one_more xs ys x is in
      below_more (λ i. R (get_or xs i d) (get_or (zs ++ y ∷ []) i d)) (length ys)
      (λ i u. subst (λ e. R e (get_or (zs ++ y ∷ []) i d)) (sym (first_of xs ys x i d is u))
      (subst (R (get_or ys i d)) (sym (get_or_append_left zs (y ∷ []) d i (omega arith))) (each i d u)))
      (subst (λ e. R e (get_or (zs ++ y ∷ []) (length ys) d)) (sym (last_of xs ys x d is))
      (subst (R x) (sym (get_or_push zs y d (length ys) long)) last))
      k (omega arith)
