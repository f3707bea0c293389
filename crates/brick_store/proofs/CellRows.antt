-- The rows of cells, as more rows come.
use Rattle.std.proofs.Common.{◌≡◌, ℕ, ◌+◌, ◌<◌, ◌≤◌, ◌==◌, ℤ, pos, Bool, true, false, cond, ◌||◌, nat_lt, List, [], ◌∷◌, ◌++◌, length, map, filter, fold, get_or, All, Option, Some, count_by, refl, sym, ap, ◌∙◌, arith, append_assoc, inl, inr}
use Rattle.std.specs.List.{zip}
use Rattle.std.specs.Option.{option_map_or}
use Rattle.std.specs.List.Sorted.{IsPermutation}
use Rattle.std.proofs.lemmas.Bool.{cases_lt, cases_eq}
use Rattle.std.proofs.lemmas.Bool.Decides.{nat_tests}
use Rattle.std.proofs.lemmas.List.{append-nil, map-append}
use Rattle.std.proofs.lemmas.List.Elements.{filter-append}
use Rattle.std.proofs.lemmas.List.Sums.{sum_by-cons, length-filter, count_by-le-length}
use Rattle.std.proofs.lemmas.Option.{unwrap_or-slice_get}
use Rattle.cube_values.specs.declared.query.BoundItem.{BoundItem}
use Rattle.agg_fold.specs.declared.tally.Tally.{Tally}
use Rattle.agg_fold.specs.Tallies.{metric_number, metric_asked, tally_of, tally_with, tally_with_row}
use Rattle.agg_fold.proofs.Permuted.{filter_either, filter_all}
use Rattle.agg_fold.proofs.Tallying.{tally_more}
use Rattle.brick_columns.specs.Rows.{BrickRow, metric_at}
use Rattle.packed_words.specs.Counted.{numbers_in}
use Rattle.brick_store.specs.Cells.{cell_of, rows_in_cell, rows_below_cell, cell_metrics}
use Rattle.packed_words.proofs.CellNumbers.{same_cell, other_cell}

module _ (ranges group : List ℕ) (cell : ℕ) where
  -- the rows of a cell as their cells are counted
  pub count_rows : (rows : List BrickRow) → count_by (λ c. c == cell) (map (cell_of ranges group) rows) ≡ length (rows_in_cell ranges group cell rows)
  count_rows [] = refl
  count_rows (row ∷ rows) =
      sum_by-cons (λ c. cond (c == cell) 1 0) (cell_of ranges group row) (map (cell_of ranges group) rows) ∙ at (cell_of ranges group row == cell) (count_rows rows)
    where
      at : (b : Bool) → count_by (λ c. c == cell) (map (cell_of ranges group) rows) ≡ length (rows_in_cell ranges group cell rows)
          → cond b 1 0 + count_by (λ c. c == cell) (map (cell_of ranges group) rows) ≡ length (cond b (row ∷ rows_in_cell ranges group cell rows) (rows_in_cell ranges group cell rows))
      at true h = omega (arith, h)
      at false h = omega (arith, h)

  -- and the numbers of the rows of a cell
  pub numbers_of_rows : (m : ℕ) (rows : List BrickRow) → numbers_in cell (map (cell_of ranges group) rows) (map (metric_at m) rows) ≡ map (metric_at m) (rows_in_cell ranges group cell rows)
  numbers_of_rows m [] = refl
  numbers_of_rows m (row ∷ rows) = at (cell_of ranges group row == cell) (filter (λ (p : ℕ × ℤ). p.0 == cell) (zip (map (cell_of ranges group) rows) (map (metric_at m) rows))) (numbers_of_rows m rows)
    where
      at : (b : Bool) (ps : List (ℕ × ℤ)) → map (λ (p : ℕ × ℤ). p.1) ps ≡ map (metric_at m) (rows_in_cell ranges group cell rows)
          → map (λ (p : ℕ × ℤ). p.1) (cond b ((cell_of ranges group row, metric_at m row) ∷ ps) ps) ≡ map (metric_at m) (cond b (row ∷ rows_in_cell ranges group cell rows) (rows_in_cell ranges group cell rows))
      at true ps h = ap (λ (ns : List ℤ). metric_at m row ∷ ns) h
      at false ps h = h

  pub cell_append : (rows more : List BrickRow) → rows_in_cell ranges group cell (rows ++ more) ≡ rows_in_cell ranges group cell rows ++ rows_in_cell ranges group cell more
  cell_append rows more = filter-append (λ row. cell_of ranges group row == cell) rows more

  pub metrics_append : (rows more : List BrickRow) → cell_metrics ranges group cell (rows ++ more) ≡ cell_metrics ranges group cell rows ++ cell_metrics ranges group cell more
  metrics_append rows more =
      ap (map (λ (row : BrickRow). row.metrics)) (cell_append rows more) ∙ map-append (λ (row : BrickRow). row.metrics) (rows_in_cell ranges group cell rows) (rows_in_cell ranges group cell more)

  pub few_in_cell : (rows : List BrickRow) → length (rows_in_cell ranges group cell rows) ≤ length rows
  few_in_cell rows =
      let test = λ (row : BrickRow). cell_of ranges group row == cell in
      omega (arith, length-filter test rows, count_by-le-length test rows)

-- a tally of rows, and more rows of which the item asks for a metric
pub tallied_more : (item : BoundItem) (m : ℕ) → metric_asked item ≡ Some m → (before : List (List ℤ)) (rows : List BrickRow) → fold tally_with (tally_of before item) (map (metric_at m) rows) ≡ tally_of (before ++ map (λ row. row.metrics) rows) item
tallied_more item m e before [] = ap (λ (rs : List (List ℤ)). tally_of rs item) (sym (append-nil before))
tallied_more item m e before (row ∷ rows) =
    let t = tally_of before item in
    let asked : tally_with t (metric_at m row) ≡ tally_with_row row.metrics item t =
    ap (tally_with t) (sym (unwrap_or-slice_get row.metrics m (pos 0))) ∙ ap (λ (o : Option ℕ). option_map_or (λ metric. tally_with t (metric_number metric row.metrics)) o t) (sym e) in
    ap (λ (x : Tally). fold tally_with x (map (metric_at m) rows)) (asked ∙ sym (tally_more before row.metrics item))
    ∙ tallied_more item m e (before ++ row.metrics ∷ []) rows
    ∙ ap (λ (rs : List (List ℤ)). tally_of rs item) (append_assoc before (row.metrics ∷ []) (map (λ r. r.metrics) rows))

-- ---- the rows of one cell more

below_test : (x n : ℕ) → x < n → nat_lt x n ≡ true
below_test x n h = grind (arith, nat_tests)

above_test : (x n : ℕ) → n ≤ x → nat_lt x n ≡ false
above_test x n h = grind (arith, nat_tests)

module _ (ranges group : List ℕ) (cell : ℕ) (rows : List BrickRow) where
  either : (x : ℕ) → nat_lt x (cell + 1) ≡ (nat_lt x cell || (x == cell))
  either x =
      elim (cases_lt x cell) [
        | inl a ↦ below_test x (cell + 1) (omega arith) ∙ sym (ap (λ (b : Bool). b || (x == cell)) (below_test x cell a))
        | inr a ↦ elim (cases_eq x cell) [
          | inl e ↦ below_test x (cell + 1) (omega arith) ∙ sym (λ t. above_test x cell a t || same_cell x cell e t)
          | inr ne ↦ above_test x (cell + 1) (omega arith) ∙ sym (λ t. above_test x cell a t || other_cell x cell ne t)
        ]
      ]

  apart : (x : ℕ) → (x == cell) ≡ true → nat_lt x cell ≡ false
  apart x e = grind (arith, nat_tests)

  pub below_more : IsPermutation (rows_below_cell ranges group (cell + 1) rows) (rows_below_cell ranges group cell rows ++ rows_in_cell ranges group cell rows)
  below_more =
      filter_either (λ (row : BrickRow). nat_lt (cell_of ranges group row) cell) (λ (row : BrickRow). cell_of ranges group row == cell) (λ (row : BrickRow). nat_lt (cell_of ranges group row) (cell + 1))
      (λ row. either (cell_of ranges group row)) (λ row. apart (cell_of ranges group row)) rows

  pub few_below : length (rows_below_cell ranges group cell rows) ≤ length rows
  few_below =
      let test = λ (row : BrickRow). nat_lt (cell_of ranges group row) cell in
      omega (arith, length-filter test rows, count_by-le-length test rows)

pub none_below : (ranges group : List ℕ) (rows : List BrickRow) → rows_below_cell ranges group 0 rows ≡ []
none_below ranges group [] = refl
none_below ranges group (row ∷ rows) =
    let no : nat_lt (cell_of ranges group row) 0 ≡ false = above_test (cell_of ranges group row) 0 (omega arith) in
    ap (λ (b : Bool). cond b (row ∷ rows_below_cell ranges group 0 rows) (rows_below_cell ranges group 0 rows)) no ∙ none_below ranges group rows

pub all_below : (ranges group : List ℕ) (n : ℕ) (rows : List BrickRow) → All (λ row. cell_of ranges group row < n) rows → rows_below_cell ranges group n rows ≡ rows
all_below ranges group n rows h =
    filter_all (λ (row : BrickRow). nat_lt (cell_of ranges group row) n) rows (λ i d p. below_test (cell_of ranges group (get_or rows i d)) n (h i d p))
