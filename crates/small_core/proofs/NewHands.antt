-- New callers, and the last of them.
use Rattle.std.proofs.Common.{◌≡◌, ◌∙◌, ℕ, zero, suc, ◌+◌, ◌-◌, List, [], ◌∷◌, length, take, drop, refl, ap, arith}
use Rattle.turn_board.specs.Hands.{all_but, last_of, new_hands}
use Rattle.turn_board.specs.declared.history.Hand.{Hand}

module _ (Q A : Type 0) where
  abbrev hands : ℕ → ℕ → List (Hand Q A)
  hands from count = new_hands from count

  long : (from n : ℕ) → length (hands from n) ≡ n
  long from zero = refl
  long from (suc n) = ap suc (long (suc from) n)

  taken : (from n : ℕ) → take n (hands from (suc n)) ≡ hands from n
  taken from zero = refl
  taken from (suc n) =
      ap (λ (hs : List (Hand Q A)). record { number = from; made = [] } ∷ hs) (taken (suc from) n)

  dropped : (from n : ℕ) → drop n (hands from (suc n)) ≡ hands (from + n) 1
  dropped from zero = ap (λ (m : ℕ). hands m 1) (omega arith)
  dropped from (suc n) = dropped (suc from) n ∙ ap (λ (m : ℕ). hands m 1) (omega arith)

  before-last : (n : ℕ) → length (hands 0 (suc n)) - 1 ≡ n
  before-last n = let is = long 0 (suc n) in omega (arith, is)

  pub all-but-last : (n : ℕ) → all_but 1 (hands 0 (suc n)) ≡ hands 0 n
  all-but-last n = ap (λ (m : ℕ). take m (hands 0 (suc n))) (before-last n) ∙ taken 0 n

  pub the-last : (n : ℕ) → last_of 1 (hands 0 (suc n)) ≡ hands n 1
  the-last n =
      ap (λ (m : ℕ). drop m (hands 0 (suc n))) (before-last n) ∙ dropped 0 n ∙ ap (λ (m : ℕ). hands m 1) (omega arith)
