-- The cubes of a shard at their places, before and after a change of one or of each.
use Rattle.std.proofs.Common.{◌≡◌, ℕ, zero, suc, ◌+◌, ◌<◌, ◌≤◌, ◌==◌, ◌&&◌, Bool, true, false, cond, List, [], ◌∷◌, length, get_or, set, take, Vec, Global, ◌++◌, sum_by, Option, None, refl, sym, ap, subst, ◌∙◌, arith}
use Rattle.std.specs.List.{AllZip}
use Rattle.std.specs.Vec.{with_items}
use Rattle.std.proofs.lemmas.Bool.Decides.{nat_tests}
use Rattle.std.proofs.lemmas.List.{append-nil, drop_all, get_or-set_same, get_or-set_other, take_all}
use Rattle.std.proofs.lemmas.List.Sums.{sum_by-set, sum_by-cons, get_or-le-sum_by}
use Rattle.cube_values.specs.declared.shape.CubeShape.{CubeShape}
use Rattle.brick_map.specs.declared.deletion.Deletion.{Deletion}
use Rattle.brick_map.specs.Births.{BrickContent, CubeState}
use Rattle.shard_cell.specs.Slots.{HasSameSlot, HasShape, IsSlotAfter, slot_brick, slot_rows, slot_waits, untouched}
use Rattle.shard_cell.specs.Answers.{HasSameShard}
use Rattle.shard_cell.specs.Shards.{KeepsShapesWith}

equal : (a b : ℕ) → (a == b) ≡ true → a ≡ b
equal a b h = grind (arith, nat_tests)

apart : (a b : ℕ) → (a == b) ≡ false → a ≡ b → ⊥
apart a b h e = grind (arith, nat_tests)

-- the cube at a place
pub slot_there : (cubes : List (Option CubeState)) (i : ℕ) (slot : Option CubeState) → i < length cubes → slot ≡ get_or cubes i slot → slot ≡ get_or cubes i None
slot_there [] i slot l e = absurd (omega arith)
slot_there (x ∷ cubes) zero slot l e = e
slot_there (x ∷ cubes) (suc i) slot l e = slot_there cubes i slot (omega arith) e

pub rows_within : (cubes : List (Option CubeState)) (i : ℕ) (slot : Option CubeState) (limit : ℕ) → i < length cubes → slot ≡ get_or cubes i slot → sum_by slot_rows cubes ≤ limit → slot_rows slot ≤ limit
rows_within cubes i slot limit l e few =
    let here = ap slot_rows e in
    omega (arith, here, get_or-le-sum_by slot_rows cubes i slot l, few)

module _ (cubes : List (Option CubeState)) (i : ℕ) (new : Option CubeState) (within : i < length cubes) where
  at_set : (j : ℕ) (t : Bool) → (j == i) ≡ t → get_or (set cubes i new) j None ≡ cond t new (get_or cubes j None)
  at_set j true h = ap (λ k. get_or (set cubes i new) k None) (equal j i h) ∙ get_or-set_same cubes i new None within
  at_set j false h = get_or-set_other cubes i j new None (apart j i h)

  -- what a change of one cube makes of what is seen of each
  pub put_at : {X : Type 0} (f : Option CubeState → X) (g : X → X) → f new ≡ g (f (get_or cubes i None)) → (j : ℕ) → f (get_or (set cubes i new) j None) ≡ cond (j == i) (g (f (get_or cubes j None))) (f (get_or cubes j None))
  put_at f g e j = by_test (j == i) refl where
    by_test : (t : Bool) → (j == i) ≡ t → f (get_or (set cubes i new) j None) ≡ cond t (g (f (get_or cubes j None))) (f (get_or cubes j None))
    by_test true h = ap f (at_set j true h) ∙ e ∙ ap (λ k. g (f (get_or cubes k None))) (sym (equal j i h))
    by_test false h = ap f (at_set j false h)

  pub same_at : {X : Type 0} (f : Option CubeState → X) → f new ≡ f (get_or cubes i None) → (j : ℕ) → f (get_or (set cubes i new) j None) ≡ f (get_or cubes j None)
  same_at f e j = put_at f (λ x. x) e j ∙ by_test (j == i) where
    by_test : (t : Bool) → cond t (f (get_or cubes j None)) (f (get_or cubes j None)) ≡ f (get_or cubes j None)
    by_test true = refl
    by_test false = refl

  pub rows_set : sum_by slot_rows (set cubes i new) + slot_rows (get_or cubes i None) ≡ sum_by slot_rows cubes + slot_rows new
  rows_set = sum_by-set slot_rows cubes i new None within

  pub rows_there : slot_rows (get_or cubes i None) ≤ sum_by slot_rows cubes
  rows_there = get_or-le-sum_by slot_rows cubes i None within

  pub all_same : (limit : ℕ) → HasSameSlot (get_or cubes i None) new → HasSameShard (record { cubes = cubes; limit = limit }) (record { cubes = set cubes i new; limit = limit })
  all_same limit h = record {
    bricks = λ cube number. same_at (λ slot. slot_brick slot number) (h.bricks number) cube;
    rows = omega (arith, rows_set, h.rows);
    waits = same_at slot_waits h.waits;
  }

  pub shapes_set : (limit : ℕ) (shape : CubeShape) → HasShape shape new → KeepsShapesWith i shape (record { cubes = cubes; limit = limit }) (record { cubes = set cubes i new; limit = limit })
  shapes_set limit shape h = λ shapes is had cube. by_test shapes is had cube (cube == i) refl where
    by_test : (shapes : ℕ → CubeShape) → shapes i ≡ shape → ((cube : ℕ) → HasShape (shapes cube) (get_or cubes cube None)) → (cube : ℕ) (t : Bool) → (cube == i) ≡ t → HasShape (shapes cube) (get_or (set cubes i new) cube None)
    by_test shapes is had cube true e =
        subst (HasShape (shapes cube)) (sym (at_set cube true e)) (subst (λ s. HasShape s new) (sym (ap shapes (equal cube i e) ∙ is)) h)
    by_test shapes is had cube false e = subst (HasShape (shapes cube)) (sym (at_set cube false e)) (had cube)

-- each cube is changed
pub both_tests : {X : Type 0} (s t : Bool) (x y : X) → cond s (cond t x y) y ≡ cond (s && t) x y
both_tests true t x y = refl
both_tests false t x y = refl

module _ (change : BrickContent → BrickContent) (stays : Deletion → Bool) (none : change untouched ≡ untouched) where
  pub nothing_after : IsSlotAfter change stays None None
  nothing_after = record { bricks = λ number. sym none; waits = refl; fewer = omega arith; shape = λ shape h. h }

  pub after_at : (old new : List (Option CubeState)) → AllZip (IsSlotAfter change stays) old new → (cube : ℕ) → IsSlotAfter change stays (get_or old cube None) (get_or new cube None)
  after_at [] [] h cube = nothing_after
  after_at [] (y ∷ new) h cube = absurd h
  after_at (x ∷ old) [] h cube = absurd h
  after_at (x ∷ old) (y ∷ new) h zero = h.0
  after_at (x ∷ old) (y ∷ new) h (suc cube) = after_at old new h.1 cube

  pub fewer_after : (old new : List (Option CubeState)) → AllZip (IsSlotAfter change stays) old new → sum_by slot_rows new ≤ sum_by slot_rows old
  fewer_after [] [] h = omega arith
  fewer_after [] (y ∷ new) h = absurd h
  fewer_after (x ∷ old) [] h = absurd h
  fewer_after (x ∷ old) (y ∷ new) h = omega (arith, sum_by-cons slot_rows x old, sum_by-cons slot_rows y new, h.0.fewer, fewer_after old new h.1)

  pub long_after : (old new : List (Option CubeState)) → AllZip (IsSlotAfter change stays) old new → length new ≡ length old
  long_after [] [] h = refl
  long_after [] (y ∷ new) h = absurd h
  long_after (x ∷ old) [] h = absurd h
  long_after (x ∷ old) (y ∷ new) h = ap suc (long_after old new h.1)

-- items that take the place of as many
pub items_kept : (v : Vec (Option CubeState) Global) (new : List (Option CubeState)) → length new ≡ length v.items → (with_items v new).items ≡ new
items_kept v new long =
    ap (λ rest. take v.len (new ++ rest)) (drop_all (length new) v.items (omega (arith, long)))
    ∙ ap (take v.len) (append-nil new)
    ∙ take_all v.len new (omega (arith, long, v.ok.0))
