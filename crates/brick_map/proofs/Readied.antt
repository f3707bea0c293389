-- Making room and births leave what bricks have.
use Rattle.std.proofs.Common.{◌≡◌, ◌≢◌, ℕ, ◌^◌, ◌<◌, ◌≤◌, ◌==◌, ◌||◌, zero, suc, Bool, true, false, cond, List, [], ◌∷◌, ◌++◌, length, get_or, All, Option, Some, None, option_map, refl, sym, ap, subst, ◌∙◌, arith}
use Rattle.std.specs.Option.{option_map_or}
use Rattle.std.proofs.lemmas.Bool.Decides.{nat_tests}
use Rattle.std.proofs.lemmas.List.Elements.{All-cons, All-head, All-nil, All-push, All-tail, All-weaker}
use Rattle.cube_values.specs.declared.row.CodedRow.{CodedRow}
use Rattle.cube_values.specs.declared.shape.CubeShape.{CubeShape}
use Rattle.cube_values.specs.declared.shape.Size.{Size}
use Rattle.cube_values.specs.Shapes.{bricks_of}
use Rattle.brick_store.specs.Bricks.{BrickState, Home}
use Rattle.brick_map.specs.declared.deletion.Deletion.{Deletion}
use Rattle.brick_map.specs.declared.runs.BatchRun.{BatchRun}
use Rattle.brick_map.specs.Batches.{AreRuns, has_run, rows_for, run_at, runs_for}
use Rattle.brick_map.specs.Births.{BrickContent, brick_numbered, content_among, content_of_brick, newborn}
use Rattle.brick_map.specs.Lists.{IsBrickOf, brick_with_room, bricks_with, home_of, spare_entries_at, spare_rows_at}
use Rattle.brick_map.specs.Places.{brick_place}
use Rattle.brick_map.specs.Waiting.{IsReadied}
use Rattle.brick_map.proofs.Counts.{all_with, count_push, count_with_same}
use Rattle.brick_map.proofs.Lists.{absent, numbered_born, numbered_with, place_born, stands}

pub readied_none : (shape : CubeShape) (recent : List Deletion) (bricks : List BrickState) → All (IsBrickOf shape) bricks → IsReadied shape recent bricks bricks
readied_none shape recent bricks all = record {
  same = λ number. refl;
  count = refl;
  bricks = all;
  rows = λ number. omega arith;
  entries = λ number. omega arith;
}

pub readied_same : (shape : CubeShape) (recent : List Deletion) (old new : List BrickState) → new ≡ old → All (IsBrickOf shape) old → IsReadied shape recent old new
readied_same shape recent old new e all = subst (IsReadied shape recent old) (sym e) (readied_none shape recent old all)

pub readied_twice : (shape : CubeShape) (recent : List Deletion) (a b c : List BrickState) → IsReadied shape recent a b → IsReadied shape recent b c → IsReadied shape recent a c
readied_twice shape recent a b c p q = record {
  same = λ number. q.same number ∙ p.same number;
  count = q.count ∙ p.count;
  bricks = q.bricks;
  rows = λ number. omega (arith, p.rows number, q.rows number);
  entries = λ number. omega (arith, p.entries number, q.entries number);
}

abbrev rows_spare : Option BrickState → ℕ
rows_spare o = option_map_or (λ b. b.spare_rows) o 0

abbrev entries_spare : Option BrickState → ℕ
entries_spare o = option_map_or (λ b. b.spare_entries) o 0

equal : (a b : ℕ) → (a == b) ≡ true → a ≡ b
equal a b h = grind (arith, nat_tests)

pub readied_born : (shape : CubeShape) (recent : List Deletion) (old : List BrickState) (b : BrickState) (number : ℕ) → All (IsBrickOf shape) old → brick_place number old ≡ None → number < bricks_of shape.shape.sizes → b.home ≡ home_of shape number → content_of_brick b ≡ newborn shape.shape.sizes recent number → IsReadied shape recent old (old ++ b ∷ [])
readied_born shape recent old b number all none l home content = record {
  same = λ n. ap (λ o. option_map_or content_of_brick o (newborn shape.shape.sizes recent n)) (numbered n) ∙ by_test n (number == n) refl;
  count = omega (arith, count_push old b, ap (λ (c : BrickContent). length c.rows) content);
  bricks = All-push (IsBrickOf shape) old b all (record {
    home = home ∙ ap (home_of shape) (sym is_number);
    number = subst (λ n. n < bricks_of shape.shape.sizes) (sym is_number) l;
  });
  rows = λ n. rows_more n (number == n) refl;
  entries = λ n. entries_more n (number == n) refl;
} where
  is_number : b.home.number ≡ number
  is_number = ap (λ (h : Home). h.number) home

  new : brick_place b.home.number old ≡ None
  new = ap (λ n. brick_place n old) is_number ∙ none

  gone : brick_numbered number old ≡ None
  gone = (absent number old none).none

  numbered : (n : ℕ) → brick_numbered n (old ++ b ∷ []) ≡ cond (number == n) (Some b) (brick_numbered n old)
  numbered n = numbered_born n old b new ∙ ap (λ m. cond (m == n) (Some b) (brick_numbered n old)) is_number

  gone_at : (n : ℕ) → (number == n) ≡ true → brick_numbered n old ≡ None
  gone_at n h = ap (λ m. brick_numbered m old) (sym (equal number n h)) ∙ gone

  by_test : (n : ℕ) (t : Bool) → (number == n) ≡ t → option_map_or content_of_brick (cond (number == n) (Some b) (brick_numbered n old)) (newborn shape.shape.sizes recent n) ≡ content_among shape.shape.sizes recent old n
  by_test n true h =
      ap (λ t. option_map_or content_of_brick (cond t (Some b) (brick_numbered n old)) (newborn shape.shape.sizes recent n)) h
      ∙ content
      ∙ ap (newborn shape.shape.sizes recent) (equal number n h)
      ∙ sym (ap (λ o. option_map_or content_of_brick o (newborn shape.shape.sizes recent n)) (gone_at n h))
  by_test n false h = ap (λ t. option_map_or content_of_brick (cond t (Some b) (brick_numbered n old)) (newborn shape.shape.sizes recent n)) h

  rows_more : (n : ℕ) (t : Bool) → (number == n) ≡ t → spare_rows_at n old ≤ spare_rows_at n (old ++ b ∷ [])
  rows_more n true h = omega (arith, ap rows_spare (gone_at n h))
  rows_more n false h = omega (arith, ap rows_spare (numbered n ∙ ap (λ t. cond t (Some b) (brick_numbered n old)) h))

  entries_more : (n : ℕ) (t : Bool) → (number == n) ≡ t → spare_entries_at n old ≤ spare_entries_at n (old ++ b ∷ [])
  entries_more n true h = omega (arith, ap entries_spare (gone_at n h))
  entries_more n false h = omega (arith, ap entries_spare (numbered n ∙ ap (λ t. cond t (Some b) (brick_numbered n old)) h))

pub readied_room : (shape : CubeShape) (recent : List Deletion) (old : List BrickState) (number rows entries : ℕ) → All (IsBrickOf shape) old → IsReadied shape recent old (bricks_with number (brick_with_room rows entries) old)
readied_room shape recent old number rows entries all = record {
  same = λ n. ap (λ o. option_map_or content_of_brick o (newborn shape.shape.sizes recent n)) (numbered_with n number (brick_with_room rows entries) old (λ b. refl)) ∙ same (newborn shape.shape.sizes recent n) (n == number) (brick_numbered n old);
  count = count_with_same number (brick_with_room rows entries) old (λ b. refl);
  bricks = all_with (IsBrickOf shape) number (brick_with_room rows entries) old (λ b i. record { home = i.home; number = i.number }) all;
  rows = λ n. omega (arith, ap rows_spare (numbered_with n number (brick_with_room rows entries) old (λ b. refl)), more_rows (n == number) (brick_numbered n old));
  entries = λ n. omega (arith, ap entries_spare (numbered_with n number (brick_with_room rows entries) old (λ b. refl)), more_entries (n == number) (brick_numbered n old));
} where
  same : (born : BrickContent) (t : Bool) (o : Option BrickState) → option_map_or content_of_brick (cond t (option_map (brick_with_room rows entries) o) o) born ≡ option_map_or content_of_brick o born
  same born true None = refl
  same born true (Some b) = refl
  same born false o = refl

  more_rows : (t : Bool) (o : Option BrickState) → rows_spare o ≤ rows_spare (cond t (option_map (brick_with_room rows entries) o) o)
  more_rows true None = omega arith
  more_rows true (Some b) = omega arith
  more_rows false o = omega arith

  more_entries : (t : Bool) (o : Option BrickState) → entries_spare o ≤ entries_spare (cond t (option_map (brick_with_room rows entries) o) o)
  more_entries true None = omega arith
  more_entries true (Some b) = omega arith
  more_entries false o = omega arith

-- where a brick is there, it has the room
pub record HasRoomAt (number rows entries : ℕ) (bricks : List BrickState) : Type 0 where
  pub for_rows : rows ≤ spare_rows_at number bricks
  pub for_entries : entries ≤ spare_entries_at number bricks

own_number : (a : ℕ) → (a == a) ≡ true
own_number a = grind (arith, nat_tests)

pub has_room : (bricks : List BrickState) (number place rows entries : ℕ) → brick_place number bricks ≡ Some place → HasRoomAt number rows entries (bricks_with number (brick_with_room rows entries) bricks)
has_room [] number place rows entries e = cc
has_room (x ∷ bricks) number place rows entries e =
    let at = stands number (x ∷ bricks) place e in
    by_brick (get_or (x ∷ bricks) place x) (at.is x) where
      by_brick : (b : BrickState) → brick_numbered number (x ∷ bricks) ≡ Some b → HasRoomAt number rows entries (bricks_with number (brick_with_room rows entries) (x ∷ bricks))
      by_brick b there =
          let now = numbered_with number number (brick_with_room rows entries) (x ∷ bricks) (λ b. refl) ∙ (λ t. cond (own_number number t) (option_map (brick_with_room rows entries) (there t)) (there t)) in
          record { for_rows = omega (arith, ap rows_spare now); for_entries = omega (arith, ap entries_spare now) }

pub room_made : (bricks : List BrickState) (number rows entries : ℕ) → brick_place number bricks ≢ None → HasRoomAt number rows entries (bricks_with number (brick_with_room rows entries) bricks)
room_made bricks number rows entries there = by_option (brick_place number bricks) refl where
  by_option : (o : Option ℕ) → brick_place number bricks ≡ o → HasRoomAt number rows entries (bricks_with number (brick_with_room rows entries) bricks)
  by_option None e = absurd (there e)
  by_option (Some place) e = has_room bricks number place rows entries e

pub born_there : (old new : List BrickState) (b : BrickState) (number : ℕ) → brick_place number old ≡ None → b.home.number ≡ number → new ≡ old ++ b ∷ [] → brick_place number new ≢ None
born_there old new b number none is made e =
    let gone : brick_place b.home.number old ≡ None = ap (λ n. brick_place n old) is ∙ none in
    let here : (b.home.number == number) ≡ true = ap (λ n. n == number) is ∙ own_number number in
    let there : brick_place number new ≡ Some (length old) = ap (brick_place number) made ∙ place_born number old b gone ∙ ap (λ t. cond t (Some (length old)) (brick_place number old)) here in
    let clash : Some (length old) ≡ None = sym there ∙ e in
    cc

-- room for each of some runs
abbrev pub IsRoomFor : List BrickState → List BatchRun → BatchRun → Type 0
IsRoomFor bricks runs run = HasRoomAt run.number (rows_for run.number runs) (runs_for run.number runs) bricks

pub room_still : (shape : CubeShape) (recent : List Deletion) (old new : List BrickState) (runs some : List BatchRun) → IsReadied shape recent old new → All (IsRoomFor old runs) some → All (IsRoomFor new runs) some
room_still shape recent old new runs some h all =
    All-weaker (IsRoomFor old runs) (IsRoomFor new runs) (λ run room. record { for_rows = omega (arith, room.for_rows, h.rows run.number); for_entries = omega (arith, room.for_entries, h.entries run.number) }) some all

pub ready_all : (bricks : List BrickState) (runs some : List BatchRun) (number : ℕ) → All (IsRoomFor bricks runs) some → has_run number some ≡ true → (rows_for number runs ≤ spare_rows_at number bricks) × (runs_for number runs ≤ spare_entries_at number bricks)
ready_all bricks runs [] number all e = cc
ready_all bricks runs (run ∷ some) number all e = by_test (λ e. ready_all bricks runs some number (All-tail (IsRoomFor bricks runs) run some all) e) (run.number == number) refl e where
  by_test : (has_run number some ≡ true → (rows_for number runs ≤ spare_rows_at number bricks) × (runs_for number runs ≤ spare_entries_at number bricks)) → (t : Bool) → (run.number == number) ≡ t → (t || has_run number some) ≡ true → (rows_for number runs ≤ spare_rows_at number bricks) × (runs_for number runs ≤ spare_entries_at number bricks)
  by_test again true h e =
      let P : ℕ → Type 0 = λ n. (rows_for n runs ≤ spare_rows_at n bricks) × (runs_for n runs ≤ spare_entries_at n bricks) in
      let first = All-head (IsRoomFor bricks runs) run some all in
      subst P (equal run.number number h) (first.for_rows, first.for_entries)
  by_test again false h e = again e

-- numbers that 64 bits can count
pub numbers_few : (sizes : List Size) (rows : List CodedRow) (from : ℕ) (runs : List BatchRun) → bricks_of sizes ≤ 2 ^ 62 → AreRuns sizes rows from runs → All (λ run. run.number < 2 ^ 62) runs
numbers_few sizes rows from [] few h = All-nil (λ (run : BatchRun). run.number < 2 ^ 62)
numbers_few sizes rows from (run ∷ runs) few h =
    All-cons (λ (run : BatchRun). run.number < 2 ^ 62) run runs (omega (arith, few, h.0.brick)) (numbers_few sizes rows run.to runs few h.1)

pub number_there : (sizes : List Size) (rows : List CodedRow) (from i : ℕ) (runs : List BatchRun) → i < length runs → AreRuns sizes rows from runs → (run_at runs i).number < bricks_of sizes
number_there sizes rows from i [] l h = absurd (omega arith)
number_there sizes rows from zero (run ∷ runs) l h = h.0.brick
number_there sizes rows from (suc i) (run ∷ runs) l h = number_there sizes rows run.to i runs (omega arith) h.1
