-- Lists read by place, seats by number, and functions changed at one number.
use Rattle.std.proofs.Common.{◌≡◌, ℕ, cond, eqb, eq-eqb, ne_eqb, zero, suc, ◌<◌, ◌≢◌, ◌⊎◌, List, [], ◌∷◌, ◌++◌, length, set, sym, refl, ap, ◌∙◌, subst, inl, inr, ⊎_elim, arith}
use mathlib.Core.Option.{some, some-injective, some-ne-none}
use mathlib.Core.Logic.{dite}
use native.Mathlib.Decide.{ℕ_discrete}
use lib.ListN.{get_elem?}
use Rattle.atomic_table.proofs.Lists.{at_set, set_here, set_else}
use Rattle.turn_board.specs.declared.view.PassView.{PassView}
use Rattle.turn_board.specs.Rule.{SomeSeat}

module _ {X : Type 0} where
  pub inside : (l : List X) (i : ℕ) (x : X) → get_elem? l i ≡ some x → i < length l
  inside [] i x e = absurd (some-ne-none x (sym e))
  inside (y ∷ ys) zero x e = omega arith
  inside (y ∷ ys) (suc i) x e = let r = inside ys i x e in omega arith

  pub there : (l : List X) (i : ℕ) → i < length l → (x : X) × (get_elem? l i ≡ some x)
  there [] i h = absurd (omega arith)
  there (y ∷ ys) zero h = (y, refl)
  there (y ∷ ys) (suc i) h = there ys i (omega arith)

  -- in a list with one more at its end, a place is an earlier one or the end
  pub at_end : (l : List X) (a b : X) (j : ℕ) → get_elem? (l ++ a ∷ []) j ≡ some b → (get_elem? l j ≡ some b)
      ⊎ ((j ≡ length l) × (a ≡ b))
  at_end [] a b zero e = inr (refl, some-injective a b e)
  at_end [] a b (suc j) e = absurd (some-ne-none b (sym e))
  at_end (x ∷ xs) a b zero e = inl e
  at_end (x ∷ xs) a b (suc j) e = ⊎_elim (λ t. inl t) (λ t. inr (ap suc t.0, t.1)) (at_end xs a b j e)

  -- the function with another value at k
  abbrev pub put : (ℕ → X) → ℕ → X → ℕ → X
  put f k x i = cond (eqb i k) x (f i)

  pub put_here : (f : ℕ → X) (k i : ℕ) (x : X) → i ≡ k → put f k x i ≡ x
  put_here f k i x e = ap (λ b. cond b x (f i)) (eq-eqb i k e)

  pub put_else : (f : ℕ → X) (k i : ℕ) (x : X) → i ≢ k → put f k x i ≡ f i
  put_else f k i x n = ap (λ b. cond b x (f i)) (ne_eqb i k n)

module _ {T Q A : Type 0} (views : List (PassView T Q A)) (id : ℕ) (v w : PassView T Q A)
    (at : get_elem? views id ≡ some v) where
  pub set_at : get_elem? (set views id w) id ≡ some w
  set_at = set_here views id w (inside views id v at)

  pub at_id : (j : ℕ) (u : PassView T Q A) → j ≡ id → get_elem? views j ≡ some u → u ≡ v
  at_id j u e is = some-injective u v (sym is ∙ (ap (get_elem? views) e ∙ at))

  -- what some seat was, some seat is
  pub seat_stays : (j : ℕ) (P P' : PassView T Q A → Type 0) → (P v → P' w) → ((u : PassView T Q A) → P u → P' u)
      → SomeSeat views j P → SomeSeat (set views id w) j P'
  seat_stays j P P' keep others s = dite (ℕ_discrete j id)
      (λ e. (w, ap (get_elem? (set views id w)) e ∙ set_at, keep (subst P (at_id j s.0 e s.1) s.2)))
      (λ n. (s.0, set_else views id j w n ∙ s.1, others s.0 s.2))

  -- what holds of the other seats and of the new view holds of all
  pub seats_set : (P : ℕ → PassView T Q A → Type 0) → P id w
      → ((j : ℕ) (u : PassView T Q A) → j ≢ id → get_elem? views j ≡ some u → P j u)
      → (j : ℕ) (u : PassView T Q A) → get_elem? (set views id w) j ≡ some u → P j u
  seats_set P mine others j u e =
      ⊎_elim (λ (t : (j ≡ id) × (w ≡ u)). subst (λ (x : ℕ × PassView T Q A). P x.0 x.1) (λ i. (sym t.0 i, t.1 i)) mine)
      (λ (t : (j ≢ id) × (get_elem? views j ≡ some u)). others j u t.0 t.1) (at_set views id j w u e)
