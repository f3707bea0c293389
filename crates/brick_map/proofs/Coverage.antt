-- A box that cuts no brick has a brick where it has the brick's first coordinates.
use Rattle.std.proofs.Common.{◌≡◌, ℕ, ◌<◌, ◌&&◌, Bool, true, false, zero, suc, List, [], ◌∷◌, length, replicate, get_or, All, refl, sym, ◌∙◌}
use Rattle.cube_values.specs.declared.shape.Size.{Size}
use Rattle.cube_values.specs.declared.span.Part.{Part}
use Rattle.cube_values.specs.declared.span.Part.TheVariants as part
use Rattle.cube_values.specs.declared.span.Span.{Span}
use Rattle.cube_values.specs.Shapes.{IsSoundSize, bricks_of}
use Rattle.cube_values.specs.Spans.{part_has, parts_have}
use Rattle.brick_address.specs.Addresses.{LieIn, coords_of}
use Rattle.brick_address.specs.Covers.{CutFirst, HasAll, HasNone}
use Rattle.brick_address.proofs.Bricks.{is_address}
use Rattle.brick_store.proofs.Starts.{zeros_fit}
use Rattle.condition_spans.specs.Spans.{CutNoBrick}
use Rattle.brick_map.specs.Births.{has_brick}

abbrev first_coords : List Size → ℕ → List ℕ
first_coords sizes number = coords_of sizes number (replicate (length sizes) 0)

first_lies : (sizes : List Size) (number : ℕ) → All IsSoundSize sizes → number < bricks_of sizes → LieIn sizes number (first_coords sizes number)
first_lies sizes number all l = (is_address sizes number (replicate (length sizes) 0) all l (zeros_fit sizes number all l)).coords

-- each part has its coordinate
and_left : (a b : Bool) → (a && b) ≡ true → a ≡ true
and_left true b h = refl
and_left false b h = cc

and_right : (a b : Bool) → (a && b) ≡ true → b ≡ true
and_right true b h = h
and_right false b h = cc

each_part : (parts : List Part) (coords : List ℕ) (dim : ℕ) → parts_have parts coords ≡ true → part_has (get_or parts dim part.All) (get_or coords dim 0) ≡ true
each_part [] coords dim h = refl
each_part (p ∷ parts) [] dim h = cc
each_part (p ∷ parts) (x ∷ coords) zero h = and_left (part_has p x) (parts_have parts coords) h
each_part (p ∷ parts) (x ∷ coords) (suc dim) h = each_part parts coords dim (and_right (part_has p x) (parts_have parts coords) h)

module _ (sizes : List Size) (span : Span) (number : ℕ) (sound : All IsSoundSize sizes) (there : number < bricks_of sizes) where
  pub has_inside : HasAll sizes span.parts number → true ≡ has_brick sizes span number
  has_inside h = sym (h (first_coords sizes number) (first_lies sizes number sound there))

  pub has_outside : HasNone sizes span.parts number → false ≡ has_brick sizes span number
  has_outside h = sym (h (first_coords sizes number) (first_lies sizes number sound there))

  pub not_cut : (dim : ℕ) → CutNoBrick sizes span.parts → CutFirst sizes span.parts number dim → ⊥
  not_cut dim whole cut = by_test (has_brick sizes span number) refl where
    alike : (coords : List ℕ) → LieIn sizes number coords → parts_have span.parts coords ≡ has_brick sizes span number
    alike coords lies =
        let first = first_lies sizes number sound there in
        whole coords (first_coords sizes number) lies.of_cube first.of_cube (lies.of_brick ∙ sym first.of_brick)

    by_test : (t : Bool) → has_brick sizes span number ≡ t → ⊥
    by_test true h = cut.lacks (λ coords lies. each_part span.parts coords dim (alike coords lies ∙ h))
    by_test false h = cut.some (λ coords lies. alike coords lies ∙ h)
