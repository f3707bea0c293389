-- How much of a brick a span has.
use Rattle.std.specs.Prelude.{ℕ, ◌<◌, ◌≡◌, false, List, IsTrue, get_or}
use Rattle.cube_values.specs.declared.shape.Size.{Size}
use Rattle.cube_values.specs.declared.span.Part.{Part}
use Rattle.cube_values.specs.declared.span.Part.TheVariants.{All}
use Rattle.cube_values.specs.Spans.{part_has, parts_have}
use Rattle.brick_address.specs.declared.cover.Cover.{Cover}
use Rattle.brick_address.specs.declared.cover.Cover.TheVariants.{Inside, Outside, Cut}
use Rattle.brick_address.specs.Addresses.{LieIn}

-- The parts have all coordinates of the brick.
abbrev pub HasAll : List Size → List Part → ℕ → Type 0
HasAll sizes parts brick = (coords : List ℕ) → LieIn sizes brick coords → IsTrue (parts_have parts coords)

-- The parts have no coordinates of the brick.
abbrev pub HasNone : List Size → List Part → ℕ → Type 0
HasNone sizes parts brick = (coords : List ℕ) → LieIn sizes brick coords → parts_have parts coords ≡ false

-- The part of a dimension has that dimension's coordinate of all coordinates of the brick.
abbrev pub HasAllAt : List Size → List Part → ℕ → ℕ → Type 0
HasAllAt sizes parts brick dim =
    (coords : List ℕ) → LieIn sizes brick coords → IsTrue (part_has (get_or parts dim All) (get_or coords dim 0))

-- The parts have some coordinates of the brick, and the dimension is the first whose part lacks one.
pub record CutFirst (sizes : List Size) (parts : List Part) (brick dim : ℕ) : Type 0 where
  pub some : HasNone sizes parts brick → ⊥
  pub lacks : HasAllAt sizes parts brick dim → ⊥
  pub before : (d : ℕ) → d < dim → HasAllAt sizes parts brick d

-- Inside: all coordinates of the brick. Outside: none. Else Cut with the first dimension that cuts.
abbrev pub Covers : List Size → List Part → ℕ → Cover → Type 0
Covers sizes parts brick Inside = HasAll sizes parts brick
Covers sizes parts brick Outside = HasNone sizes parts brick
Covers sizes parts brick (Cut dim) = CutFirst sizes parts brick dim
