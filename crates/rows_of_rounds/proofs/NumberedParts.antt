-- What a round has of a brick: at most one part, that of the brick's number.
use Rattle.std.proofs.Common.{◌≡◌, ◌∙◌, ℕ, ◌+◌, ◌<◌, ◌==◌, Bool, true, false, cond, List, [], ◌∷◌, filter, Option, Some, None, IfSome, if◌then◌else◌, refl, sym, ap, arith, eqb-true, ne_eqb}
use Rattle.std.specs.List.{AllByRecursion}
use Rattle.brick_map.specs.Copied.{part_numbered}
use Rattle.cube_rounds.specs.Bricks.{BrickPart}
use Rattle.cube_rounds.specs.Demands.{AreRising}
use Rattle.rows_of_rounds.proofs.RoundAbove.{part_of_round}

none-of-number : (least n : ℕ) (parts : List BrickPart) → AreRising least parts → n < least
    → filter (λ b. b.brick == n) parts ≡ []
none-of-number least n [] rising low = refl
none-of-number least n (b ∷ parts) rising low =
    let from = rising.0 in
    ap (λ (t : Bool). cond t (b ∷ filter (λ b. b.brick == n) parts) (filter (λ b. b.brick == n) parts))
    (ne_eqb b.brick n (λ same. absurd (omega (arith, from, low, same))))
    ∙ none-of-number (b.brick + 1) n parts rising.1 (omega (arith, from, low))

pub one-of-number : (least n : ℕ) (parts : List BrickPart) → AreRising least parts
    → filter (λ b. b.brick == n) parts ≡ part_of_round (part_numbered n parts)
one-of-number least n [] rising = refl
one-of-number least n (b ∷ parts) rising =
    at (b.brick == n) refl (one-of-number (b.brick + 1) n parts rising.1)
  where
    at : (here : Bool) → (b.brick == n) ≡ here
        → filter (λ b. b.brick == n) parts ≡ part_of_round (part_numbered n parts)
        → cond here (b ∷ filter (λ b. b.brick == n) parts) (filter (λ b. b.brick == n) parts)
        ≡ part_of_round (if here then Some b else part_numbered n parts)
    at true is rest =
        let same = eqb-true b.brick n is in
        ap (λ (l : List BrickPart). b ∷ l)
        (none-of-number (b.brick + 1) n parts rising.1 (omega (arith, same)))
    at false is rest = rest

pub numbered-has : (P : BrickPart → Type 0) (n : ℕ) (parts : List BrickPart) → AllByRecursion P parts
    → IfSome (part_numbered n parts) P
numbered-has P n [] all = tt
numbered-has P n (b ∷ parts) all = at (b.brick == n) (numbered-has P n parts all.1)
  where
    at : (here : Bool) → IfSome (part_numbered n parts) P → IfSome (if here then Some b else part_numbered n parts) P
    at true rest = all.0
    at false rest = rest
