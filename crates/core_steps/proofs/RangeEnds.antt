-- A box between the ends of ranges cuts no brick.
use Rattle.std.proofs.Common.{◌≡◌, inl, inr, ℕ, ◌+◌, ◌*◌, ◌/◌, ◌%◌, ◌<◌, ◌≤◌, ◌&&◌, Bool, true, List, [], ◌∷◌, length, get_or, sym, ap, arith}
use Rattle.std.proofs.lemmas.Nat.{div-add-mod', le-div}
use Rattle.std.proofs.lemmas.Bool.{cases_lt}
use Rattle.std.proofs.lemmas.Bool.Decides.{nat_tests}
use Rattle.std.proofs.Math.Nat.{div-mul-le_self}
use Rattle.cube_values.specs.Spans.{part_has}
use Rattle.cube_values.specs.declared.shape.Size.{Size}
use Rattle.cube_values.specs.declared.span.Part.TheVariants.{Between}
use Rattle.condition_spans.specs.Spans.{CutNoBrick}
use Rattle.core_steps.specs.Boxes.{AreRangeEnds}

-- A coordinate that is at or above the first of a range: so are all of its own range.
above : (r low a b : ℕ) → 0 < r → low % r ≡ 0 → a / r ≡ b / r → low ≤ a → low ≤ b
above r low a b some first same le =
    let whole : low / r * r + low % r ≡ low = div-add-mod' low r in
    let from : low / r * r ≤ a = omega (arith, whole, first, le) in
    let ranges : low / r ≤ a / r = le-div (low / r) a r some from in
    let others : low / r ≤ b / r = omega (arith, ranges, same) in
    let times : low / r * r ≤ b / r * r = grind (arith, others) in
    let below : b / r * r ≤ b = div-mul-le_self b r in
    omega (arith, whole, first, times, below)

-- One below the first of another.
below : (r next a b : ℕ) → 0 < r → next % r ≡ 0 → a / r ≡ b / r → a < next → b < next
below r next a b some first same lt =
    elim (cases_lt b next) [
      | inl is ↦ is
      | inr other ↦ absurd (omega (arith, lt, above r next b a some first (sym same) other))
    ]

both : (r low high a b : ℕ) → AreRangeEnds r low high → a / r ≡ b / r
    → part_has (Between low high) a ≡ part_has (Between low high) b
both r low high a b ends same =
    let up = above r low a b ends.some ends.first same in
    let up-back = above r low b a ends.some ends.first (sym same) in
    let down = below r (high + 1) a b ends.some ends.last same in
    let down-back = below r (high + 1) b a ends.some ends.last (sym same) in
    grind (arith, nat_tests, up, up-back, down, down-back)

pub cuts-none : (sizes : List Size) (d : Size) (low high : ℕ) → length sizes ≡ 1
    → AreRangeEnds (get_or sizes 0 d).range low high → CutNoBrick sizes (Between low high ∷ [])
cuts-none [] d low high one ends a b of_a of_b same = absurd (omega (arith, one))
cuts-none (s ∷ t ∷ sizes) d low high one ends a b of_a of_b same = absurd (omega (arith, one))
cuts-none (s ∷ []) d low high one ends [] b of_a of_b same = absurd of_a
cuts-none (s ∷ []) d low high one ends (x ∷ a) [] of_a of_b same = absurd of_b
cuts-none (s ∷ []) d low high one ends (x ∷ y ∷ a) b of_a of_b same = absurd of_a.1
cuts-none (s ∷ []) d low high one ends (x ∷ []) (y ∷ z ∷ b) of_a of_b same = absurd of_b.1
cuts-none (s ∷ []) d low high one ends (x ∷ []) (y ∷ []) of_a of_b same =
    let range : x / s.range ≡ y / s.range = omega (arith, same) in
    ap (λ (t : Bool). t && true) (both s.range low high x y ends range)
