-- Boxes that cut no brick.
use Rattle.std.proofs.Common.{inl, inr, ℕ, ◌+◌, ◌<◌, List, refl, sym, subst, ◌∙◌, arith}
use Rattle.std.proofs.lemmas.Bool.{cases_eq}
use Rattle.cube_values.specs.declared.shape.Size.{Size}
use Rattle.cube_values.specs.declared.span.Part.{Part}
use Rattle.cube_values.specs.Shapes.{bricks_of}
use Rattle.brick_address.specs.Addresses.{AreCoords, HaveAnAddress, brick_of}
use Rattle.condition_spans.specs.Spans.{CutNoBrick}
use Rattle.shard_cases.specs.Drawn.{TakesWhole}

-- Parts have all or nothing of each brick below a number.
abbrev pub TakesWholeBelow : List Size → List Part → ℕ → Type 0
TakesWholeBelow sizes parts bricks = (number : ℕ) → number < bricks → TakesWhole sizes parts number

pub one_more : (sizes : List Size) (parts : List Part) (bricks : ℕ)
    → TakesWholeBelow sizes parts bricks → TakesWhole sizes parts bricks → TakesWholeBelow sizes parts (bricks + 1)
one_more sizes parts bricks before here number below = elim (cases_eq number bricks) [
  | inl is ↦ subst (TakesWhole sizes parts) (sym is) here
  | inr other ↦ before number (omega (arith, below, other))
]

pub cut_none : (sizes : List Size) (parts : List Part)
    → ((coords : List ℕ) → AreCoords sizes coords → HaveAnAddress sizes coords)
    → TakesWholeBelow sizes parts (bricks_of sizes) → CutNoBrick sizes parts
cut_none sizes parts addresses each a b of_a of_b same =
    elim (each (brick_of sizes a) (addresses a of_a).brick) [
      | inl has ↦
          has a (record { of_cube = of_a; of_brick = refl })
          ∙ sym (has b (record { of_cube = of_b; of_brick = sym same }))
      | inr none ↦
          none a (record { of_cube = of_a; of_brick = refl })
          ∙ sym (none b (record { of_cube = of_b; of_brick = sym same }))
    ]
