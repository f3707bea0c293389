-- Numbers beside cells, one more at a time.
use Rattle.std.proofs.Common.{◌≡◌, ℕ, zero, suc, ◌+◌, ◌<◌, ◌==◌, ℤ, pos, Bool, true, false, cond, List, [], ◌∷◌, ◌++◌, length, map, take, filter, fold, get_or, add-one, eq-eqb, refl, ap, ◌∙◌, arith}
use Rattle.std.specs.List.{zip}
use Rattle.std.proofs.lemmas.Bool.Decides.{nat_tests}
use Rattle.std.proofs.lemmas.List.Sums.{fold-append}
use Rattle.packed_words.specs.Counted.{numbers_in}

pub same_cell : (a b : ℕ) → a ≡ b → (a == b) ≡ true
same_cell a b e = eq-eqb a b e

pub other_cell : (a b : ℕ) → (a ≡ b → ⊥) → (a == b) ≡ false
other_cell a b ne = grind (arith, nat_tests)

-- the first numbers of a cell, beside it
abbrev pairs_in : ℕ → ℕ → List ℕ → List ℤ → List (ℕ × ℤ)
pairs_in cell k cells numbers = filter (λ p. p.0 == cell) (zip (take k cells) (take k numbers))

-- one number more
pub numbers_more : (cell : ℕ) (cells : List ℕ) (numbers : List ℤ) (i : ℕ) → i < length cells → i < length numbers
    → numbers_in cell (take (i + 1) cells) (take (i + 1) numbers) ≡ numbers_in cell (take i cells) (take i numbers) ++ cond (get_or cells i 0 == cell) (get_or numbers i (pos 0) ∷ []) []
numbers_more cell cells numbers i p q = ap (λ n. numbers_in cell (take n cells) (take n numbers)) (add-one i) ∙ by_place cells numbers i p q where
  one : (b : Bool) (pair : ℕ × ℤ) → map (λ (p : ℕ × ℤ). p.1) (cond b (pair ∷ []) []) ≡ cond b (pair.1 ∷ []) []
  one true pair = refl
  one false pair = refl

  step : (b : Bool) (pair : ℕ × ℤ) (more less : List (ℕ × ℤ)) (t : List ℤ) → map (λ (p : ℕ × ℤ). p.1) more ≡ map (λ (p : ℕ × ℤ). p.1) less ++ t
      → map (λ (p : ℕ × ℤ). p.1) (cond b (pair ∷ more) more) ≡ map (λ (p : ℕ × ℤ). p.1) (cond b (pair ∷ less) less) ++ t
  step true pair more less t e = ap (λ (l : List ℤ). pair.1 ∷ l) e
  step false pair more less t e = e

  by_place : (cells : List ℕ) (numbers : List ℤ) (i : ℕ) → i < length cells → i < length numbers
      → numbers_in cell (take (suc i) cells) (take (suc i) numbers) ≡ numbers_in cell (take i cells) (take i numbers) ++ cond (get_or cells i 0 == cell) (get_or numbers i (pos 0) ∷ []) []
  by_place [] numbers i p q = absurd (omega arith)
  by_place (c ∷ cells) [] i p q = absurd (omega arith)
  by_place (c ∷ cells) (n ∷ numbers) zero p q = one (c == cell) (c, n)
  by_place (c ∷ cells) (n ∷ numbers) (suc i) p q = step (c == cell) (c, n) (pairs_in cell (suc i) cells numbers) (pairs_in cell i cells numbers) (cond (get_or cells i 0 == cell) (get_or numbers i (pos 0) ∷ []) []) (by_place cells numbers i (omega arith) (omega arith))

pub folded_more : (f : ℤ → ℤ → ℤ) (a : ℤ) (cell : ℕ) (cells : List ℕ) (numbers : List ℤ) (i : ℕ) → i < length cells → i < length numbers → (b : Bool) → (get_or cells i 0 == cell) ≡ b
    → fold f a (numbers_in cell (take (i + 1) cells) (take (i + 1) numbers)) ≡ cond b (f (fold f a (numbers_in cell (take i cells) (take i numbers))) (get_or numbers i (pos 0))) (fold f a (numbers_in cell (take i cells) (take i numbers)))
folded_more f a cell cells numbers i p q b e =
    ap (fold f a) (numbers_more cell cells numbers i p q)
    ∙ fold-append f a (numbers_in cell (take i cells) (take i numbers)) (cond (get_or cells i 0 == cell) (get_or numbers i (pos 0) ∷ []) [])
    ∙ ap (λ (t : Bool). fold f (fold f a (numbers_in cell (take i cells) (take i numbers))) (cond t (get_or numbers i (pos 0) ∷ []) [])) e
    ∙ at b (fold f a (numbers_in cell (take i cells) (take i numbers))) (get_or numbers i (pos 0))
  where
    at : (b : Bool) (x n : ℤ) → fold f x (cond b (n ∷ []) []) ≡ cond b (f x n) x
    at true x n = refl
    at false x n = refl
