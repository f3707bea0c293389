-- How many rows bricks have, and what holds of each of them, where some are changed.
use Rattle.std.proofs.Common.{◌≡◌, ℕ, ◌+◌, ◌<◌, ◌≤◌, ◌==◌, Bool, true, false, cond, List, [], ◌∷◌, ◌++◌, length, map, All, Option, Some, None, option_map, unwrap_or, refl, sym, ap, ◌∙◌, arith, subst}
use Rattle.std.specs.List.{AllZip}
use Rattle.std.specs.Option.{option_map_or}
use Rattle.std.proofs.lemmas.Bool.Decides.{nat_tests}
use Rattle.std.proofs.lemmas.List.Elements.{All-nil, All-cons, All-head, All-tail}
use Rattle.std.proofs.lemmas.List.Sums.{sum_by-cons}
use Rattle.cube_values.specs.declared.shape.CubeShape.{CubeShape}
use Rattle.cube_values.specs.declared.shape.Size.{Size}
use Rattle.cube_values.specs.Shapes.{bricks_of}
use Rattle.brick_store.specs.Bricks.{Home, BrickState}
use Rattle.brick_map.specs.declared.deletion.Deletion.{Deletion}
use Rattle.brick_map.specs.Appended.{content_numbered}
use Rattle.brick_map.specs.Births.{brick_numbered, content_among, content_of_brick, newborn, rows_count}
use Rattle.brick_map.specs.Lists.{HasSame, IsBrickOf, bricks_with}
use Rattle.brick_map.specs.Places.{numbers_of_bricks}
use Rattle.brick_map.proofs.Lists.{KeepsNumber}

pub count_cons : (b : BrickState) (bricks : List BrickState) → rows_count (b ∷ bricks) ≡ length b.rows + rows_count bricks
count_cons b bricks = sum_by-cons (λ (b : BrickState). length b.rows) b bricks

pub count_push : (bricks : List BrickState) (b : BrickState) → rows_count (bricks ++ b ∷ []) ≡ rows_count bricks + length b.rows
count_push [] b = omega (arith, count_cons b [])
count_push (x ∷ bricks) b = omega (arith, count_push bricks b, count_cons x (bricks ++ b ∷ []), count_cons x bricks)

-- the brick of a number has so many rows more
pub count_with : (number more : ℕ) (change : BrickState → BrickState) (bricks : List BrickState) (b : BrickState) → ((b : BrickState) → length (change b).rows ≡ length b.rows + more) → brick_numbered number bricks ≡ Some b → rows_count (bricks_with number change bricks) ≡ rows_count bricks + more
count_with number more change [] b rows there = cc
count_with number more change (x ∷ bricks) b rows there = by_test (λ e. count_with number more change bricks b rows e) (x.home.number == number) there where
  by_test : (brick_numbered number bricks ≡ Some b → rows_count (bricks_with number change bricks) ≡ rows_count bricks + more) → (t : Bool) → cond t (Some x) (brick_numbered number bricks) ≡ Some b → rows_count (cond t (change x ∷ bricks) (x ∷ bricks_with number change bricks)) ≡ rows_count (x ∷ bricks) + more
  by_test again true e = omega (arith, count_cons (change x) bricks, count_cons x bricks, rows x)
  by_test again false e = omega (arith, count_cons x (bricks_with number change bricks), count_cons x bricks, again e)

pub count_with_same : (number : ℕ) (change : BrickState → BrickState) (bricks : List BrickState) → ((b : BrickState) → length (change b).rows ≡ length b.rows) → rows_count (bricks_with number change bricks) ≡ rows_count bricks
count_with_same number change [] rows = refl
count_with_same number change (x ∷ bricks) rows = by_test (count_with_same number change bricks rows) (x.home.number == number) where
  by_test : rows_count (bricks_with number change bricks) ≡ rows_count bricks → (t : Bool) → rows_count (cond t (change x ∷ bricks) (x ∷ bricks_with number change bricks)) ≡ rows_count (x ∷ bricks)
  by_test again true = omega (arith, count_cons (change x) bricks, count_cons x bricks, rows x)
  by_test again false = omega (arith, count_cons x (bricks_with number change bricks), count_cons x bricks, again)

-- each brick is changed
pub count_map : (change : BrickState → BrickState) (bricks : List BrickState) → ((b : BrickState) → length (change b).rows ≤ length b.rows) → rows_count (map change bricks) ≤ rows_count bricks
count_map change [] fewer = omega arith
count_map change (x ∷ bricks) fewer = omega (arith, count_cons (change x) (map change bricks), count_cons x bricks, fewer x, count_map change bricks fewer)

pub count_map_same : (change : BrickState → BrickState) (bricks : List BrickState) → ((b : BrickState) → length (change b).rows ≡ length b.rows) → rows_count (map change bricks) ≡ rows_count bricks
count_map_same change [] same = refl
count_map_same change (x ∷ bricks) same = omega (arith, count_cons (change x) (map change bricks), count_cons x bricks, same x, count_map_same change bricks same)

pub numbers_map : (change : BrickState → BrickState) (bricks : List BrickState) → KeepsNumber change → numbers_of_bricks (map change bricks) ≡ numbers_of_bricks bricks
numbers_map change [] keeps = refl
numbers_map change (x ∷ bricks) keeps = λ t. keeps x t ∷ numbers_map change bricks keeps t

pub numbered_map : (number : ℕ) (change : BrickState → BrickState) (bricks : List BrickState) → KeepsNumber change → brick_numbered number (map change bricks) ≡ option_map change (brick_numbered number bricks)
numbered_map number change [] keeps = refl
numbered_map number change (x ∷ bricks) keeps =
    ap (λ n. cond (n == number) (Some (change x)) (brick_numbered number (map change bricks))) (keeps x)
    ∙ by_test (numbered_map number change bricks keeps) (x.home.number == number) where
      by_test : brick_numbered number (map change bricks) ≡ option_map change (brick_numbered number bricks) → (t : Bool) → cond t (Some (change x)) (brick_numbered number (map change bricks)) ≡ option_map change (cond t (Some x) (brick_numbered number bricks))
      by_test again true = refl
      by_test again false = again

-- what holds of each brick
pub all_with : (P : BrickState → Type 0) (number : ℕ) (change : BrickState → BrickState) (bricks : List BrickState) → ((b : BrickState) → P b → P (change b)) → All P bricks → All P (bricks_with number change bricks)
all_with P number change [] keeps all = all
all_with P number change (x ∷ bricks) keeps all = by_test (all_with P number change bricks keeps (All-tail P x bricks all)) (x.home.number == number) where
  by_test : All P (bricks_with number change bricks) → (t : Bool) → All P (cond t (change x ∷ bricks) (x ∷ bricks_with number change bricks))
  by_test again true = All-cons P (change x) bricks (keeps x (All-head P x bricks all)) (All-tail P x bricks all)
  by_test again false = All-cons P x (bricks_with number change bricks) (All-head P x bricks all) again

pub numbered_holds : (P : BrickState → Type 0) (number : ℕ) (bricks : List BrickState) (b : BrickState) → All P bricks → brick_numbered number bricks ≡ Some b → P b × (b.home.number ≡ number)
numbered_holds P number [] b all e = cc
numbered_holds P number (x ∷ bricks) b all e = by_test (λ e. numbered_holds P number bricks b (All-tail P x bricks all) e) (x.home.number == number) refl e where
  by_test : (brick_numbered number bricks ≡ Some b → P b × (b.home.number ≡ number)) → (t : Bool) → (x.home.number == number) ≡ t → cond t (Some x) (brick_numbered number bricks) ≡ Some b → P b × (b.home.number ≡ number)
  by_test again true h e =
      let same : x ≡ b = cc in
      let is : x.home.number ≡ number = grind (arith, nat_tests) in
      (subst P same (All-head P x bricks all), ap (λ (b : BrickState). b.home.number) (sym same) ∙ is)
  by_test again false h e = again e

-- the brick of a number has it
pub numbered_at : (number : ℕ) (bricks : List BrickState) (b : BrickState) → brick_numbered number bricks ≡ Some b → b.home.number ≡ number
numbered_at number bricks b e = (numbered_holds (λ b. Unit {0}) number bricks b (each_trivial bricks) e).1 where
  each_trivial : (bricks : List BrickState) → All (λ (b : BrickState). Unit {0}) bricks
  each_trivial [] = All-nil (λ (b : BrickState). Unit {0})
  each_trivial (x ∷ bricks) = All-cons (λ (b : BrickState). Unit {0}) x bricks tt (each_trivial bricks)

-- bricks that have what others have
pub same_count : (old new : List BrickState) → AllZip HasSame old new → rows_count new ≡ rows_count old
same_count [] [] h = refl
same_count [] (y ∷ new) h = absurd h
same_count (x ∷ old) [] h = absurd h
same_count (x ∷ old) (y ∷ new) h = omega (arith, count_cons x old, count_cons y new, ap length h.0.rows, same_count old new h.1)

pub same_numbers : (old new : List BrickState) → AllZip HasSame old new → numbers_of_bricks new ≡ numbers_of_bricks old
same_numbers [] [] h = refl
same_numbers [] (y ∷ new) h = absurd h
same_numbers (x ∷ old) [] h = absurd h
same_numbers (x ∷ old) (y ∷ new) h = λ t. (h.0.home t).number ∷ same_numbers old new h.1 t

pub same_content : (number : ℕ) (old new : List BrickState) → AllZip HasSame old new → content_numbered number new ≡ content_numbered number old
same_content number [] [] h = refl
same_content number [] (y ∷ new) h = absurd h
same_content number (x ∷ old) [] h = absurd h
same_content number (x ∷ old) (y ∷ new) h =
    ap (λ n. option_map content_of_brick (cond (n == number) (Some y) (brick_numbered number new))) (λ t. (h.0.home t).number)
    ∙ by_test (same_content number old new h.1) (x.home.number == number) where
      by_test : content_numbered number new ≡ content_numbered number old → (t : Bool) → option_map content_of_brick (cond t (Some y) (brick_numbered number new)) ≡ option_map content_of_brick (cond t (Some x) (brick_numbered number old))
      by_test again true = λ t. Some (record { rows = h.0.rows t; entries = h.0.entries t })
      by_test again false = again

pub same_bricks : (shape : CubeShape) (old new : List BrickState) → AllZip HasSame old new → All (IsBrickOf shape) old → All (IsBrickOf shape) new
same_bricks shape [] [] h all = all
same_bricks shape [] (y ∷ new) h all = absurd h
same_bricks shape (x ∷ old) [] h all = absurd h
same_bricks shape (x ∷ old) (y ∷ new) h all =
    let P : BrickState → Type 0 = IsBrickOf shape in
    let first = All-head P x old all in
    All-cons P y new (record {
      home = h.0.home ∙ first.home ∙ (λ t. record { sizes = shape.shape.sizes; metrics = shape.metrics; number = (sym h.0.home t).number });
      number = subst (λ (home : Home). home.number < bricks_of shape.shape.sizes) (sym h.0.home) first.number;
    }) (same_bricks shape old new h.1 (All-tail P x old all))

-- what a brick has, there or not
pub content_is : (sizes : List Size) (recent : List Deletion) (bricks : List BrickState) (number : ℕ) → content_among sizes recent bricks number ≡ unwrap_or (content_numbered number bricks) (newborn sizes recent number)
content_is sizes recent bricks number = by_option (brick_numbered number bricks) where
  by_option : (o : Option BrickState) → option_map_or content_of_brick o (newborn sizes recent number) ≡ unwrap_or (option_map content_of_brick o) (newborn sizes recent number)
  by_option None = refl
  by_option (Some b) = refl
