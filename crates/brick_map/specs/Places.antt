-- Where in a list the brick of a number stands.
use Rattle.std.specs.Prelude.{◌≡◌, ℕ, ◌==◌, nat_eq, suc, List, [], ◌∷◌, map, Option, Some, None, option_map, if◌then◌else◌}
use Rattle.std.specs.List.{IsDistinct}
use Rattle.std.specs.Ordering.{nat_cmp}
use Rattle.std.specs.BTreeMap.{get}
use Rattle.brick_store.specs.Bricks.{BrickState}
use Rattle.brick_map.specs.declared.list.BrickList.TheInside.{Inside}

abbrev pub brick_place : ℕ → List BrickState → Option ℕ
brick_place number [] = None
brick_place number (b ∷ bricks) = if b.home.number == number then Some 0 else option_map suc (brick_place number bricks)

-- The numbers of bricks.
abbrev pub numbers_of_bricks : List BrickState → List ℕ
numbers_of_bricks bricks = map (λ b. b.home.number) bricks

-- The map has the place of each brick, and no two bricks have one number.
pub record ArePlaced (l : Inside) : Type 0 where
  pub places : (number : ℕ) → get nat_cmp l.places number ≡ brick_place number l.bricks.items
  pub distinct : IsDistinct nat_eq (numbers_of_bricks l.bricks.items)
