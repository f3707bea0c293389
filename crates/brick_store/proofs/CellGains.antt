-- What a partial gains cell by cell.
use Rattle.std.proofs.Common.{◌≡◌, ℕ, suc, ◌+◌, ◌<◌, ◌≤◌, ◌==◌, ℤ, pos, true, List, [], ◌∷◌, ◌++◌, length, map, get_or, All, refl, sym, ap, subst, ◌∙◌, arith, length-append}
use Rattle.std.specs.List.Sorted.{IsPermutation}
use Rattle.std.proofs.lemmas.Bool.Decides.{nat_tests}
use Rattle.std.proofs.lemmas.List.{map-append, length-map}
use Rattle.std.proofs.lemmas.List.Elements.{All-filter, All-map, filter_passes, length_all_zip}
use Rattle.std.proofs.lemmas.List.Sorted.{IsPermutation-sym, IsPermutation-map, IsPermutation-append_right, length_permutation}
use Rattle.std.proofs.lemmas.Simd.{map-map}
use Rattle.cube_values.specs.declared.query.BoundItem.{BoundItem}
use Rattle.cube_values.specs.declared.query.BoundItem.TheVariants.{Group, Count, Sum, Min, Max, Avg}
use Rattle.cube_values.specs.declared.query.BoundQuery.{BoundQuery}
use Rattle.cube_values.specs.declared.row.CodedRow.{CodedRow}
use Rattle.cube_values.specs.Queries.{IsSoundQuery}
use Rattle.agg_fold.specs.declared.groups.Groups.{Groups}
use Rattle.agg_fold.specs.declared.tally.Tally.TheVariants.{Total, Least, Greatest}
use Rattle.agg_fold.specs.Coded.{IsQueryRow, HasKey, coded_key}
use Rattle.agg_fold.specs.Standing.{HasRoom, Gains}
use Rattle.agg_fold.specs.Tallies.{tally_of, told_tally, told_tallies}
use Rattle.agg_fold.specs.Totals.{AreToldOf}
use Rattle.agg_fold.proofs.GroupRows.{stand_moved}
use Rattle.brick_columns.specs.Rows.{BrickRow, BrickRows}
use Rattle.brick_store.specs.Cells.{cell_of, rows_in_cell, rows_below_cell, cell_metrics, CanFold, IsRowOfCell, IsTakenRow, IsToldBy}
use Rattle.brick_store.specs.Whole.{coords_at_offsets, row_with_coords}
use Rattle.brick_store.proofs.Coordinates.{coords_long}
use Rattle.brick_store.proofs.CellRows.{below_more, few_below}
use Rattle.brick_store.proofs.Folds.{gains_more, gains_none, gains_same, room_after}

-- what is told of each item is its tally
told_is : (rows : List (List ℤ)) (item : BoundItem) (s l h : ℤ) → IsToldBy s l h (tally_of rows item) → told_tally item s l h ≡ tally_of rows item
told_is rows (Group dim) s l h e = refl
told_is rows Count s l h e = refl
told_is rows (Sum m) s l h e = ap Total e
told_is rows (Min m) s l h e = ap Least e
told_is rows (Max m) s l h e = ap Greatest e
told_is rows (Avg m) s l h e = ap Total e

pub told_all : (rows : List (List ℤ)) (items : List BoundItem) (sums lows highs : List ℤ) → length sums ≡ length items → length lows ≡ length items → length highs ≡ length items
    → ((i : ℕ) → i < length items → IsToldBy (get_or sums i (pos 0)) (get_or lows i (pos 0)) (get_or highs i (pos 0)) (tally_of rows (get_or items i (Group 0))))
    → told_tallies items sums lows highs ≡ map (tally_of rows) items
told_all rows [] sums lows highs p q r told = refl
told_all rows (item ∷ items) [] lows highs p q r told = absurd (omega arith)
told_all rows (item ∷ items) (s ∷ sums) [] highs p q r told = absurd (omega arith)
told_all rows (item ∷ items) (s ∷ sums) (l ∷ lows) [] p q r told = absurd (omega arith)
told_all rows (item ∷ items) (s ∷ sums) (l ∷ lows) (h ∷ highs) p q r told =
    λ t. told_is rows item s l h (told 0 (omega arith)) t
    ∷ told_all rows items sums lows highs (omega arith) (omega arith) (omega arith) (λ i b. told (suc i) (omega arith)) t

-- a row of the query
pub taken_row : (query : BoundQuery) (columns : BrickRows) (starts : List ℕ) (row : BrickRow) → CanFold query columns → length starts ≡ length columns.layout.ranges → IsTakenRow columns.layout starts query row → IsQueryRow query (row_with_coords starts row)
taken_row query columns starts row fold long taken =
    let wide = length_all_zip ◌<◌ row.offsets columns.layout.ranges taken.brick.offsets in
    let dims : length columns.layout.ranges ≡ length (coords_at_offsets starts row.offsets) = omega (arith, coords_long starts row.offsets, wide, long) in
    record {
      sound = subst (λ (n : ℕ). IsSoundQuery query n (length row.metrics)) dims (subst (λ (n : ℕ). IsSoundQuery query (length columns.layout.ranges) n) (sym taken.brick.metrics) fold.sound);
      inside = taken.inside;
      fit = taken.fit;
    }

cell_passed : (x cell : ℕ) → (x == cell) ≡ true → cell ≡ x
cell_passed x cell e = grind (arith, nat_tests)

module _ (query : BoundQuery) (columns : BrickRows) (starts : List ℕ) (cell : ℕ) (rows : List BrickRow) (fold : CanFold query columns) (long : length starts ≡ length columns.layout.ranges) (taken : All (IsTakenRow columns.layout starts query) rows) where
  pub rows_of_cell : All (IsRowOfCell columns.layout starts query.group cell) (rows_in_cell columns.layout.ranges query.group cell rows)
  rows_of_cell i d p =
      let test = λ (row : BrickRow). cell_of columns.layout.ranges query.group row == cell in
      let t = All-filter test (IsTakenRow columns.layout starts query) rows taken i d p in
      record { brick = t.brick; small = t.small; number = cell_passed _ cell (filter_passes test rows i d p) }

  pub told_rows : (key : List ℕ) (n : ℕ) (sums lows highs : List ℤ) → n ≡ length (rows_in_cell columns.layout.ranges query.group cell rows)
      → ((row : BrickRow) → IsRowOfCell columns.layout starts query.group cell row → key ≡ coded_key query.group (coords_at_offsets starts row.offsets))
      → told_tallies query.items sums lows highs ≡ map (tally_of (cell_metrics columns.layout.ranges query.group cell rows)) query.items
      → AreToldOf query key (record { rows = n; sums = sums; least = lows; greatest = highs }) (map (row_with_coords starts) (rows_in_cell columns.layout.ranges query.group cell rows))
  told_rows key n sums lows highs count keyed told =
      let rs = rows_in_cell columns.layout.ranges query.group cell rows in
      let test = λ (row : BrickRow). cell_of columns.layout.ranges query.group row == cell in
      record {
        count = count ∙ sym (length-map rs (row_with_coords starts));
        taken = All-map (IsQueryRow query) (row_with_coords starts) rs (λ i d p. taken_row query columns starts (get_or rs i d) fold long (All-filter test (IsTakenRow columns.layout starts query) rows taken i d p));
        keyed = All-map (HasKey query.group key) (row_with_coords starts) rs (λ i d p. sym (keyed (get_or rs i d) (rows_of_cell i d p)));
        tallied = told ∙ ap (λ (ms : List (List ℤ)). map (tally_of ms) query.items) (sym (map-map (λ (row : CodedRow). row.metrics) (row_with_coords starts) rs));
      }

-- the same rows in another order
pub gains_moved : (query : BoundQuery) (a b : List CodedRow) (g h : Groups) → IsPermutation a b → Gains query a g h → Gains query b g h
gains_moved query a b g h moved gains rows s =
    stand_moved query (rows ++ a) (rows ++ b) h (IsPermutation-append_right rows a b moved) (gains rows s)

-- the rows of one cell more
pub gains_cell : (query : BoundQuery) (ranges starts : List ℕ) (cell : ℕ) (rows : List BrickRow) (g h k : Groups)
    → Gains query (map (row_with_coords starts) (rows_below_cell ranges query.group cell rows)) g h
    → Gains query (map (row_with_coords starts) (rows_in_cell ranges query.group cell rows)) h k
    → Gains query (map (row_with_coords starts) (rows_below_cell ranges query.group (cell + 1) rows)) g k
gains_cell query ranges starts cell rows g h k before now =
    let f = row_with_coords starts in
    let a = rows_below_cell ranges query.group cell rows in
    let b = rows_in_cell ranges query.group cell rows in
    gains_moved query (map f (a ++ b)) (map f (rows_below_cell ranges query.group (cell + 1) rows)) g k
    (IsPermutation-map f (a ++ b) (rows_below_cell ranges query.group (cell + 1) rows) (IsPermutation-sym _ _ (below_more ranges query.group cell rows)))
    (gains_same query (map f a ++ map f b) (map f (a ++ b)) g k (sym (map-append f a b)) (gains_more query (map f a) (map f b) g h k before now))

-- a cell without rows
pub no_items : {X : Type 0} (xs : List X) → length xs ≡ 0 → xs ≡ []
no_items [] h = refl
no_items (x ∷ xs) h = absurd (omega arith)

pub gains_no_cell : (query : BoundQuery) (ranges starts : List ℕ) (cell : ℕ) (rows : List BrickRow) (g : Groups) → length (rows_in_cell ranges query.group cell rows) ≡ 0
    → Gains query (map (row_with_coords starts) (rows_in_cell ranges query.group cell rows)) g g
gains_no_cell query ranges starts cell rows g none =
    gains_same query [] (map (row_with_coords starts) (rows_in_cell ranges query.group cell rows)) g g (sym (ap (map (row_with_coords starts)) (no_items (rows_in_cell ranges query.group cell rows) none))) (gains_none query g)

-- room for the rows of a cell
pub room_for_cell : (query : BoundQuery) (ranges starts : List ℕ) (cell n : ℕ) (rows : List BrickRow) (g h : Groups) → n ≡ length (rows_in_cell ranges query.group cell rows) → HasRoom query (length rows) g
    → Gains query (map (row_with_coords starts) (rows_below_cell ranges query.group cell rows)) g h → HasRoom query n h
room_for_cell query ranges starts cell n rows g h count room gains =
    let below = rows_below_cell ranges query.group cell rows in
    let few : length below + length (rows_in_cell ranges query.group cell rows) ≤ length rows =
    omega (arith, length_permutation _ _ (below_more ranges query.group cell rows), length-append below (rows_in_cell ranges query.group cell rows), few_below ranges query.group (cell + 1) rows) in
    room_after query (length rows) n (map (row_with_coords starts) below) g h (omega (arith, count, few, length-map below (row_with_coords starts))) room gains
