-- A brick is born: the deletions that wait for it are put one after another.
use Rattle.std.proofs.Common.{◌≡◌, ℕ, ◌+◌, ◌<◌, ◌≤◌, Bool, true, false, cond, List, [], ◌∷◌, ◌++◌, length, take, get_or, refl, sym, ap, ◌∙◌, arith}
use Rattle.std.proofs.lemmas.List.{take_more}
use Rattle.cube_values.specs.declared.shape.Size.{Size}
use Rattle.cube_values.specs.declared.span.Span.{Span}
use Rattle.brick_store.specs.Bricks.{BrickState}
use Rattle.brick_map.specs.declared.deletion.Deletion.{Deletion}
use Rattle.brick_map.specs.Births.{content_of_brick, content_with_mark, has_brick, newborn}
use Rattle.brick_map.specs.Lists.{MayMark, brick_after_deletion, brick_with_mark}
use Rattle.brick_map.proofs.Births.{born_deleted}

pub deleted_home : (sizes : List Size) (box : Span) (epoch : ℕ) (b : BrickState) → (brick_after_deletion sizes box epoch b).home ≡ b.home
deleted_home sizes box epoch b = by_test (has_brick sizes box b.home.number) where
  by_test : (t : Bool) → (cond t (brick_with_mark epoch b) b).home ≡ b.home
  by_test true = refl
  by_test false = refl

pub deleted_content : (sizes : List Size) (box : Span) (epoch : ℕ) (b : BrickState) → content_of_brick (brick_after_deletion sizes box epoch b) ≡ cond (has_brick sizes box b.home.number) (content_with_mark epoch (content_of_brick b)) (content_of_brick b)
deleted_content sizes box epoch b = by_test (has_brick sizes box b.home.number) where
  by_test : (t : Bool) → content_of_brick (cond t (brick_with_mark epoch b) b) ≡ cond t (content_with_mark epoch (content_of_brick b)) (content_of_brick b)
  by_test true = refl
  by_test false = refl

pub deleted_spare : (sizes : List Size) (box : Span) (epoch : ℕ) (b : BrickState) → b.spare_entries ≤ (brick_after_deletion sizes box epoch b).spare_entries + 1
deleted_spare sizes box epoch b = by_test (has_brick sizes box b.home.number) where
  by_test : (t : Bool) → b.spare_entries ≤ (cond t (brick_with_mark epoch b) b).spare_entries + 1
  by_test true = omega arith
  by_test false = omega arith

pub may_mark : (sizes : List Size) (box : Span) (b : BrickState) → 1 ≤ b.spare_entries → MayMark sizes box b
may_mark sizes box b l = by_test (has_brick sizes box b.home.number) where
  by_test : (t : Bool) → cond t 1 0 ≤ b.spare_entries
  by_test true = l
  by_test false = omega arith

pub born_more : (sizes : List Size) (recent : List Deletion) (i number : ℕ) (d : Deletion) (b : BrickState) → i < length recent → d ≡ get_or recent i d → b.home.number ≡ number → content_of_brick b ≡ newborn sizes (take i recent) number → content_of_brick (brick_after_deletion sizes d.span d.epoch b) ≡ newborn sizes (take (i + 1) recent) number
born_more sizes recent i number d b l is home content =
    deleted_content sizes d.span d.epoch b
    ∙ (λ t. cond (has_brick sizes d.span (home t)) (content_with_mark d.epoch (content t)) (content t))
    ∙ sym (born_deleted sizes (take i recent) d number)
    ∙ ap (λ (e : Deletion). newborn sizes (take i recent ++ e ∷ []) number) is
    ∙ ap (λ (l : List Deletion). newborn sizes l number) (sym (take_more recent i d l))
