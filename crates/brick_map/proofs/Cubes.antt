-- The bricks of a cube stay whole, and what calls make of them.
use Rattle.std.proofs.Common.{◌≡◌, ℕ, ◌^◌, ◌<◌, Bool, true, false, Result, Ok, Err, OnErr, List, length, map, All, Vec, Global, cond, refl, sym, ap, subst, ◌∙◌, unwrap_or}
use Rattle.std.specs.List.{AllZip}
use Rattle.std.proofs.lemmas.List.Elements.{All-map, All-weaker}
use Rattle.cube_values.specs.declared.shape.CubeShape.{CubeShape}
use Rattle.cube_values.specs.declared.shape.Size.{Size}
use Rattle.cube_values.specs.declared.span.Span.{Span}
use Rattle.cube_values.specs.Shapes.{bricks_of}
use Rattle.brick_store.specs.Bricks.{BrickState, Home}
use Rattle.brick_map.specs.declared.cube.CubeBricks.TheInside.{Inside}
use Rattle.brick_map.specs.declared.deletion.Deletion.{Deletion}
use Rattle.brick_map.specs.Births.{content_among, has_brick, newborn, rows_count}
use Rattle.brick_map.specs.Cubes.{IsCubeWhole}
use Rattle.brick_map.specs.Lists.{HasNumberBelow, HasSame, IsBrickOf, brick_after_deletion, brick_with_mark, home_of}
use Rattle.brick_map.specs.Waiting.{IsWaiting}
use Rattle.brick_map.proofs.Counts.{content_is, same_content}

pub whole_with : (c : Inside) (list : List BrickState) (recent : Vec Deletion Global) (rows : ℕ) → IsCubeWhole c → All (IsBrickOf c.shape) list → All (IsWaiting c.shape.shape.sizes) recent.items → rows ≡ rows_count list → rows_count list < 2 ^ 63 → IsCubeWhole (record { shape = c.shape; list = list; recent = recent; rows = rows })
whole_with c list recent rows w b r n few = record { shape = w.shape; bricks = b; recent = r; rows = n; few = few }

pub numbers_below : (shape : CubeShape) (bricks : List BrickState) → All (IsBrickOf shape) bricks → All (HasNumberBelow (bricks_of shape.shape.sizes)) bricks
numbers_below shape bricks all = All-weaker (IsBrickOf shape) (HasNumberBelow (bricks_of shape.shape.sizes)) (λ b i. i.number) bricks all

-- bricks that have what others have, with the same deletions
pub same_among : (shape : CubeShape) (recent : List Deletion) (old new : List BrickState) (number : ℕ) → AllZip HasSame old new → content_among shape.shape.sizes recent new number ≡ content_among shape.shape.sizes recent old number
same_among shape recent old new number h =
    content_is shape.shape.sizes recent new number
    ∙ ap (λ o. unwrap_or o (newborn shape.shape.sizes recent number)) (same_content number old new h)
    ∙ sym (content_is shape.shape.sizes recent old number)

-- each brick is changed
pub all_mapped : (shape : CubeShape) (change : BrickState → BrickState) (bricks : List BrickState) → ((b : BrickState) → (change b).home ≡ b.home) → All (IsBrickOf shape) bricks → All (IsBrickOf shape) (map change bricks)
all_mapped shape change bricks keeps all =
    All-map (IsBrickOf shape) change bricks (All-weaker (IsBrickOf shape) (λ b. IsBrickOf shape (change b)) (λ b i. moved b i) bricks all) where
      moved : (b : BrickState) → IsBrickOf shape b → IsBrickOf shape (change b)
      moved b i =
          let number = ap (λ (h : Home). h.number) (keeps b) in
          record {
            home = keeps b ∙ i.home ∙ ap (home_of shape) (sym number);
            number = subst (λ n. n < bricks_of shape.shape.sizes) (sym number) i.number;
          }

pub on_err : {T E : Type 0} (r : Result T E) (P : Type 0) → P → OnErr r P
on_err (Ok x) P p = tt
on_err (Err e) P p = p

pub deleted_rows : (sizes : List Size) (box : Span) (epoch : ℕ) (b : BrickState) → length (brick_after_deletion sizes box epoch b).rows ≡ length b.rows
deleted_rows sizes box epoch b = by_test (has_brick sizes box b.home.number) where
  by_test : (t : Bool) → length (cond t (brick_with_mark epoch b) b).rows ≡ length b.rows
  by_test true = refl
  by_test false = refl
