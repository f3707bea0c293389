-- A batch is appended run by run: what stands between two runs.
use Rattle.std.proofs.Common.{◌≡◌, ℕ, ◌+◌, ◌-◌, ◌<◌, ◌≤◌, ◌==◌, ◌||◌, Bool, true, false, cond, List, [], ◌∷◌, ◌++◌, length, take, drop, All, Option, Some, None, option_map, IsSomeAnd, refl, sym, ap, ◌∙◌, arith, subst}
use Rattle.std.specs.Option.{option_map_or}
use Rattle.std.proofs.lemmas.Bool.Decides.{nat_tests}
use Rattle.std.proofs.lemmas.List.{append-nil, drop_all, drop_more, length-append, take_all}
use Rattle.std.proofs.lemmas.List.Elements.{All-take, All-drop}
use Rattle.cube_values.specs.declared.row.CodedRow.{CodedRow}
use Rattle.cube_values.specs.declared.shape.CubeShape.{CubeShape}
use Rattle.cube_values.specs.Batches.{rows_between}
use Rattle.brick_store.specs.Bricks.{Home, BrickState, IsRowOf}
use Rattle.brick_map.specs.declared.runs.BatchRun.{BatchRun}
use Rattle.brick_map.specs.Appended.{AreAppended, content_numbered}
use Rattle.brick_map.specs.Batches.{AreRuns, IsRowOfCube, IsRunFrom, has_run, rows_for, run_at, runs_for}
use Rattle.brick_map.specs.Births.{BrickContent, brick_numbered, content_of_brick, content_with_rows, rows_count, rows_of_brick}
use Rattle.brick_map.specs.Lists.{IsBrickOf, TakesRows, brick_with_rows, bricks_with, spare_entries_at, spare_rows_at}
use Rattle.brick_map.specs.Waiting.{IsReadyFor}
use Rattle.brick_map.proofs.Counts.{all_with, count_with, numbered_holds}
use Rattle.brick_map.proofs.Lists.{numbered_with}
use Rattle.brick_map.proofs.BatchRuns.{appended_twice, length_between, run_rows, taken}

pub record AreBetween (shape : CubeShape) (epoch : ℕ) (rows : List CodedRow) (old now : List BrickState) (left : List BatchRun) (at : ℕ) : Type 0 where
  pub runs : AreRuns shape.shape.sizes rows at left
  pub each : (number : ℕ) → content_numbered number now ≡ option_map (content_with_rows epoch (rows_of_brick shape.shape.sizes number (take at rows))) (content_numbered number old)
  pub count : rows_count now ≡ rows_count old + at
  pub bricks : All (IsBrickOf shape) now
  pub room : (number : ℕ) → IsReadyFor left now number

map_same : (o : Option BrickContent) → o ≡ option_map (λ c. c) o
map_same None = refl
map_same (Some c) = refl

pub between_none : (shape : CubeShape) (epoch : ℕ) (rows : List CodedRow) (old : List BrickState) (runs : List BatchRun) → AreRuns shape.shape.sizes rows 0 runs → All (IsBrickOf shape) old → ((number : ℕ) → IsReadyFor runs old number) → AreBetween shape epoch rows old old runs 0
between_none shape epoch rows old runs are all room = record {
  runs = are;
  each = λ number. map_same (content_numbered number old);
  count = omega arith;
  bricks = all;
  room = room;
}

-- the brick of the next run takes its rows
pub record HasTaker (rows : List CodedRow) (number : ℕ) (bricks : List BrickState) : Type 0 where
  pub brick : BrickState
  pub there : brick_numbered number bricks ≡ Some brick
  pub takes : TakesRows rows brick

own_number : (a : ℕ) → (a == a) ≡ true
own_number a = grind (arith, nat_tests)

pub taker : (shape : CubeShape) (rows : List CodedRow) (now : List BrickState) (run : BatchRun) (left : List BatchRun) (at : ℕ) → IsRunFrom shape.shape.sizes rows at run → All (IsRowOfCube shape) rows → All (IsBrickOf shape) now → IsReadyFor (run ∷ left) now run.number → HasTaker (rows_between run.from run.to rows) run.number now
taker shape rows now run left at is own all ready = by_option (brick_numbered run.number now) refl where
  has : has_run run.number (run ∷ left) ≡ true
  has = ap (λ t. t || has_run run.number left) (own_number run.number)

  rows_here : rows_for run.number (run ∷ left) ≡ (run.to - run.from) + rows_for run.number left
  rows_here = ap (λ t. cond t ((run.to - run.from) + rows_for run.number left) (rows_for run.number left)) (own_number run.number)

  runs_here : runs_for run.number (run ∷ left) ≡ 1 + runs_for run.number left
  runs_here = ap (λ t. cond t (1 + runs_for run.number left) (runs_for run.number left)) (own_number run.number)

  long : length (rows_between run.from run.to rows) ≡ run.to - run.from
  long = length_between run.from run.to rows (omega (arith, is.some)) is.within

  of_cube : All (IsRowOfCube shape) (rows_between run.from run.to rows)
  of_cube = All-take (IsRowOfCube shape) (run.to - run.from) (drop run.from rows) (All-drop (IsRowOfCube shape) run.from rows own)

  by_option : (o : Option BrickState) → brick_numbered run.number now ≡ o → HasTaker (rows_between run.from run.to rows) run.number now
  by_option None e =
      let none : spare_entries_at run.number now ≡ 0 = ap (λ (o : Option BrickState). option_map_or (λ b. b.spare_entries) o 0) e in
      absurd (omega (arith, (ready has).1, runs_here, none))
  by_option (Some b) e =
      let held = numbered_holds (IsBrickOf shape) run.number now b all e in
      let rows_spare : spare_rows_at run.number now ≡ b.spare_rows = ap (λ (o : Option BrickState). option_map_or (λ b. b.spare_rows) o 0) e in
      let entries_spare : spare_entries_at run.number now ≡ b.spare_entries = ap (λ (o : Option BrickState). option_map_or (λ b. b.spare_entries) o 0) e in
      let home : b.home ≡ record { sizes = shape.shape.sizes; metrics = shape.metrics; number = run.number } = held.0.home ∙ (λ t. record { sizes = shape.shape.sizes; metrics = shape.metrics; number = held.1 t }) in
      record {
        brick = b;
        there = e;
        takes = record {
          own = subst (λ (h : Home). All (IsRowOf h) (rows_between run.from run.to rows)) (sym home) (λ k d l. record {
            coords = record { of_cube = (of_cube k d l).coords; of_brick = is.of_brick k d l };
            metrics = (of_cube k d l).metrics;
          });
          room = omega (arith, (ready has).0, rows_here, rows_spare, long);
          entry = omega (arith, (ready has).1, runs_here, entries_spare);
        };
      }

-- memory that is left
rows_left : (n k epoch : ℕ) (more : List CodedRow) (bricks : List BrickState) → spare_rows_at n (bricks_with k (brick_with_rows epoch more) bricks) ≡ cond (n == k) (spare_rows_at n bricks - length more) (spare_rows_at n bricks)
rows_left n k epoch more bricks =
    ap (λ (o : Option BrickState). option_map_or (λ b. b.spare_rows) o 0) (numbered_with n k (brick_with_rows epoch more) bricks (λ b. refl))
    ∙ by_cases (n == k) (brick_numbered n bricks) where
      by_cases : (t : Bool) (o : Option BrickState) → option_map_or (λ (b : BrickState). b.spare_rows) (cond t (option_map (brick_with_rows epoch more) o) o) 0 ≡ cond t (option_map_or (λ (b : BrickState). b.spare_rows) o 0 - length more) (option_map_or (λ (b : BrickState). b.spare_rows) o 0)
      by_cases true None = omega arith
      by_cases true (Some b) = refl
      by_cases false o = refl

entries_left : (n k epoch : ℕ) (more : List CodedRow) (bricks : List BrickState) → spare_entries_at n (bricks_with k (brick_with_rows epoch more) bricks) ≡ cond (n == k) (spare_entries_at n bricks - 1) (spare_entries_at n bricks)
entries_left n k epoch more bricks =
    ap (λ (o : Option BrickState). option_map_or (λ b. b.spare_entries) o 0) (numbered_with n k (brick_with_rows epoch more) bricks (λ b. refl))
    ∙ by_cases (n == k) (brick_numbered n bricks) where
      by_cases : (t : Bool) (o : Option BrickState) → option_map_or (λ (b : BrickState). b.spare_entries) (cond t (option_map (brick_with_rows epoch more) o) o) 0 ≡ cond t (option_map_or (λ (b : BrickState). b.spare_entries) o 0 - 1) (option_map_or (λ (b : BrickState). b.spare_entries) o 0)
      by_cases true None = omega arith
      by_cases true (Some b) = refl
      by_cases false o = refl

same_way : (n k : ℕ) (t : Bool) → (n == k) ≡ t → (k == n) ≡ t
same_way n k true h = grind (arith, nat_tests)
same_way n k false h = grind (arith, nat_tests)

or_true : (t : Bool) → (t || true) ≡ true
or_true true = refl
or_true false = refl

pub between_more : (shape : CubeShape) (epoch : ℕ) (rows : List CodedRow) (old now : List BrickState) (run : BatchRun) (left : List BatchRun) (at : ℕ) → All (IsRowOfCube shape) rows → AreBetween shape epoch rows old now (run ∷ left) at → AreBetween shape epoch rows old (bricks_with run.number (brick_with_rows epoch (rows_between run.from run.to rows)) now) left run.to
between_more shape epoch rows old now run left at own h = record {
  runs = h.runs.1;
  each = λ n. each n ∙ ap (λ o. cond (n == run.number) (option_map (content_with_rows epoch (rows_between run.from run.to rows)) o) o) (h.each n) ∙ by_test n (n == run.number) refl (content_numbered n old);
  count = omega (arith, h.count, counted, long, h.runs.0.begins, h.runs.0.some);
  bricks = all_with (IsBrickOf shape) run.number (brick_with_rows epoch (rows_between run.from run.to rows)) now (λ b i. record { home = i.home; number = i.number }) h.bricks;
  room = room;
} where
  has_taker : HasTaker (rows_between run.from run.to rows) run.number now
  has_taker = taker shape rows now run left at h.runs.0 own h.bricks (h.room run.number)

  long : length (rows_between run.from run.to rows) ≡ run.to - run.from
  long = length_between run.from run.to rows (omega (arith, h.runs.0.some)) h.runs.0.within

  some : 0 < length (rows_between run.from run.to rows)
  some = omega (arith, long, h.runs.0.some)

  counted : rows_count (bricks_with run.number (brick_with_rows epoch (rows_between run.from run.to rows)) now) ≡ rows_count now + length (rows_between run.from run.to rows)
  counted = count_with run.number (length (rows_between run.from run.to rows)) (brick_with_rows epoch (rows_between run.from run.to rows)) now has_taker.brick (λ b. length-append b.rows (rows_between run.from run.to rows)) has_taker.there

  each : (n : ℕ) → content_numbered n (bricks_with run.number (brick_with_rows epoch (rows_between run.from run.to rows)) now) ≡ cond (n == run.number) (option_map (content_with_rows epoch (rows_between run.from run.to rows)) (content_numbered n now)) (content_numbered n now)
  each n = ap (option_map content_of_brick) (numbered_with n run.number (brick_with_rows epoch (rows_between run.from run.to rows)) now (λ b. refl)) ∙ by_cases (n == run.number) (brick_numbered n now) where
    by_cases : (t : Bool) (o : Option BrickState) → option_map content_of_brick (cond t (option_map (brick_with_rows epoch (rows_between run.from run.to rows)) o) o) ≡ cond t (option_map (content_with_rows epoch (rows_between run.from run.to rows)) (option_map content_of_brick o)) (option_map content_of_brick o)
    by_cases true None = refl
    by_cases true (Some b) = ap Some (taken epoch (rows_between run.from run.to rows) b some)
    by_cases false o = refl

  by_test : (n : ℕ) (t : Bool) → (n == run.number) ≡ t → (o : Option BrickContent) → cond (n == run.number) (option_map (content_with_rows epoch (rows_between run.from run.to rows)) (option_map (content_with_rows epoch ((rows_of_brick shape.shape.sizes n (take at rows)))) o)) (option_map (content_with_rows epoch ((rows_of_brick shape.shape.sizes n (take at rows)))) o) ≡ option_map (content_with_rows epoch (rows_of_brick shape.shape.sizes n (take run.to rows))) o
  by_test n t e o =
      ap (λ t. cond t (option_map (content_with_rows epoch (rows_between run.from run.to rows)) (option_map (content_with_rows epoch ((rows_of_brick shape.shape.sizes n (take at rows)))) o)) (option_map (content_with_rows epoch ((rows_of_brick shape.shape.sizes n (take at rows)))) o)) e
      ∙ by_cases t o
      ∙ ap (λ l. option_map (content_with_rows epoch l) o) (sym (run_rows shape.shape.sizes rows at n run h.runs.0 ∙ ap (λ t. (rows_of_brick shape.shape.sizes n (take at rows)) ++ cond t (rows_between run.from run.to rows) []) e)) where
        by_cases : (t : Bool) (o : Option BrickContent) → cond t (option_map (content_with_rows epoch (rows_between run.from run.to rows)) (option_map (content_with_rows epoch ((rows_of_brick shape.shape.sizes n (take at rows)))) o)) (option_map (content_with_rows epoch ((rows_of_brick shape.shape.sizes n (take at rows)))) o) ≡ option_map (content_with_rows epoch ((rows_of_brick shape.shape.sizes n (take at rows)) ++ cond t (rows_between run.from run.to rows) [])) o
        by_cases true None = refl
        by_cases true (Some c) = ap Some (sym (appended_twice epoch ((rows_of_brick shape.shape.sizes n (take at rows))) (rows_between run.from run.to rows) c))
        by_cases false o = ap (λ l. option_map (content_with_rows epoch l) o) (sym (append-nil ((rows_of_brick shape.shape.sizes n (take at rows)))))

  room : (n : ℕ) → IsReadyFor left (bricks_with run.number (brick_with_rows epoch (rows_between run.from run.to rows)) now) n
  room n has = by_side (n == run.number) refl where
    ready : (rows_for n (run ∷ left) ≤ spare_rows_at n now) × (runs_for n (run ∷ left) ≤ spare_entries_at n now)
    ready = h.room n (ap (λ t. (run.number == n) || t) has ∙ or_true (run.number == n))

    by_side : (t : Bool) → (n == run.number) ≡ t → (rows_for n left ≤ spare_rows_at n (bricks_with run.number (brick_with_rows epoch (rows_between run.from run.to rows)) now)) × (runs_for n left ≤ spare_entries_at n (bricks_with run.number (brick_with_rows epoch (rows_between run.from run.to rows)) now))
    by_side true e =
        let side = same_way n run.number true e in
        let rows_here = ap (λ t. cond t ((run.to - run.from) + rows_for n left) (rows_for n left)) side in
        let runs_here = ap (λ t. cond t (1 + runs_for n left) (runs_for n left)) side in
        let rows_now = rows_left n run.number epoch (rows_between run.from run.to rows) now ∙ ap (λ t. cond t (spare_rows_at n now - length (rows_between run.from run.to rows)) (spare_rows_at n now)) e in
        let runs_now = entries_left n run.number epoch (rows_between run.from run.to rows) now ∙ ap (λ t. cond t (spare_entries_at n now - 1) (spare_entries_at n now)) e in
        (omega (arith, ready.0, rows_here, rows_now, long), omega (arith, ready.1, runs_here, runs_now))
    by_side false e =
        let side = same_way n run.number false e in
        let rows_here = ap (λ t. cond t ((run.to - run.from) + rows_for n left) (rows_for n left)) side in
        let runs_here = ap (λ t. cond t (1 + runs_for n left) (runs_for n left)) side in
        let rows_now = rows_left n run.number epoch (rows_between run.from run.to rows) now ∙ ap (λ t. cond t (spare_rows_at n now - length (rows_between run.from run.to rows)) (spare_rows_at n now)) e in
        let runs_now = entries_left n run.number epoch (rows_between run.from run.to rows) now ∙ ap (λ t. cond t (spare_entries_at n now - 1) (spare_entries_at n now)) e in
        (omega (arith, ready.0, rows_here, rows_now), omega (arith, ready.1, runs_here, runs_now))

-- the same at a place of the runs
pub taker_at : (shape : CubeShape) (epoch : ℕ) (rows : List CodedRow) (old now : List BrickState) (runs : List BatchRun) (i at : ℕ) → i < length runs → All (IsRowOfCube shape) rows → AreBetween shape epoch rows old now (drop i runs) at → IsRunFrom shape.shape.sizes rows at (run_at runs i) × IsSomeAnd (brick_numbered (run_at runs i).number now) (TakesRows (rows_between (run_at runs i).from (run_at runs i).to rows))
taker_at shape epoch rows old now runs i at l own h =
    let run = run_at runs i in
    let next = subst (λ (left : List BatchRun). AreBetween shape epoch rows old now left at) (drop_more runs i (record { number = 0; from = 0; to = 0 }) l) h in
    let has = taker shape rows now run (drop (i + 1) runs) at next.runs.0 own next.bricks (next.room run.number) in
    (next.runs.0, subst (λ (o : Option BrickState). IsSomeAnd o (TakesRows (rows_between run.from run.to rows))) (sym has.there) has.takes)

pub between_drop : (shape : CubeShape) (epoch : ℕ) (rows : List CodedRow) (old now : List BrickState) (runs : List BatchRun) (i at : ℕ) → i < length runs → All (IsRowOfCube shape) rows → AreBetween shape epoch rows old now (drop i runs) at → AreBetween shape epoch rows old (bricks_with (run_at runs i).number (brick_with_rows epoch (rows_between (run_at runs i).from (run_at runs i).to rows)) now) (drop (i + 1) runs) (run_at runs i).to
between_drop shape epoch rows old now runs i at l own h =
    between_more shape epoch rows old now (run_at runs i) (drop (i + 1) runs) at own
    (subst (λ (left : List BatchRun). AreBetween shape epoch rows old now left at) (drop_more runs i (record { number = 0; from = 0; to = 0 }) l) h)

pub between_all : (shape : CubeShape) (epoch : ℕ) (rows : List CodedRow) (old now : List BrickState) (runs : List BatchRun) (i at : ℕ) → length runs ≤ i → AreBetween shape epoch rows old now (drop i runs) at → AreAppended shape epoch rows old now
between_all shape epoch rows old now runs i at l whole =
    let h = subst (λ (left : List BatchRun). AreBetween shape epoch rows old now left at) (drop_all i runs l) whole in
    record {
      each = λ n. h.each n ∙ ap (λ l. option_map (content_with_rows epoch (rows_of_brick shape.shape.sizes n l)) (content_numbered n old)) (take_all at rows (omega (arith, h.runs)));
      count = omega (arith, h.count, h.runs);
      bricks = h.bricks;
    }
