-- Chunks of rows that words have counted and summed.
use Rattle.std.proofs.Common.{◌≡◌, ℕ, ◌+◌, ◌-◌, ◌<◌, ◌≤◌, ℤ, pos, ◌+ℤ◌, List, [], ◌∷◌, ◌++◌, length, map, drop, fold, get_or, All, Some, refl, sym, ap, subst, ◌∙◌, arith}
use Rattle.std.proofs.lemmas.Int.{ints}
use Rattle.std.proofs.lemmas.List.{length-map, get_or-map, get_or-take, get_or-drop}
use Rattle.std.proofs.lemmas.List.Elements.{All-map, All-take, All-drop}
use Rattle.cube_values.specs.declared.query.BoundItem.{BoundItem}
use Rattle.cube_values.specs.declared.query.BoundItem.TheVariants.{Group, Count, Sum, Min, Max, Avg}
use Rattle.agg_fold.specs.declared.tally.Tally.{Tally}
use Rattle.agg_fold.specs.declared.tally.Tally.TheVariants.{Total}
use Rattle.agg_fold.specs.Tallies.{metric_asked, tally_of, tally_with}
use Rattle.packed_words.specs.Counted.{IsShort, AreCounted, summed_in}
use Rattle.brick_columns.specs.Rows.{BrickRow, HasShortMetrics, metric_at, offset_at, row_at}
use Rattle.brick_store.specs.Cells.{cell_count, cell_of, cell_tally, columns_between, rows_in_cell, HasCells, TalliesMore}
use Rattle.brick_store.specs.CountedChunks.{SumsAtMost, TakesSums}
use Rattle.brick_store.specs.declared.cell_tallies.CellTallies.{CellTallies}
use Rattle.brick_store.specs.declared.cell_tallies.CellTallies.TheVariants.{Nothing, Sums, Lows, Highs}
use Rattle.brick_store.proofs.CellHolds.{between_long}
use Rattle.brick_store.proofs.CellNumbers.{sums_kept}
use Rattle.brick_store.proofs.CellRows.{numbers_of_rows, tallied_more}

-- a sum that begins at a number
sum_from : (x : ℤ) (ns : List ℤ) → fold ◌+ℤ◌ x ns ≡ x +ℤ fold ◌+ℤ◌ (pos 0) ns
sum_from x [] = omega (arith, ints)
sum_from x (n ∷ ns) = omega (arith, ints, sum_from (x +ℤ n) ns, sum_from (pos 0 +ℤ n) ns)

-- the cells of a group of one dimension
pub one_cell : (ranges group : List ℕ) (dim : ℕ) (row : BrickRow) → group ≡ dim ∷ [] → cell_of ranges group row ≡ offset_at dim row
one_cell ranges group dim row e = ap (λ (g : List ℕ). cell_of ranges g row) e ∙ omega arith

pub one_count : (ranges group : List ℕ) (dim : ℕ) → group ≡ dim ∷ [] → cell_count ranges group ≡ get_or ranges dim 0
one_count ranges group dim e = ap (cell_count ranges) e ∙ omega arith

-- the cells of the rows of a chunk
pub chunk_long : {X : Type 0} (f : BrickRow → X) (from n : ℕ) (rows : List BrickRow) → from + n ≤ length rows → length (map f (columns_between from (from + n) rows)) ≡ n
chunk_long f from n rows within =
    omega (arith, length-map (columns_between from (from + n) rows) f, between_long from (from + n) rows (omega arith) within)

pub chunk_cells : (ranges group : List ℕ) (dim from n : ℕ) (rows : List BrickRow) → group ≡ dim ∷ [] → from + n ≤ length rows → (k : ℕ) → k < length (map (cell_of ranges group) (columns_between from (from + n) rows))
    → get_or (map (cell_of ranges group) (columns_between from (from + n) rows)) k 0 ≡ offset_at dim (row_at rows (from + k))
chunk_cells ranges group dim from n rows e within k h =
    let none : BrickRow = record { offsets = []; metrics = [] } in
    let f = cell_of ranges group in
    let chunk = columns_between from (from + n) rows in
    let long = between_long from (from + n) rows (omega arith) within in
    let cells = chunk_long f from n rows within in
    get_or-map f chunk k none 0 (omega (arith, long))
    ∙ ap f (get_or-take (from + n - from) (drop from rows) k none (omega arith) ∙ get_or-drop from rows k none)
    ∙ one_cell ranges group dim (row_at rows (from + k)) e

-- the metrics of short rows
pub short_numbers : (m from to : ℕ) (rows : List BrickRow) → All HasShortMetrics rows → All (λ row. m < length row.metrics) rows → All IsShort (map (metric_at m) (columns_between from to rows))
short_numbers m from to rows short long =
    All-map IsShort (metric_at m) (columns_between from to rows)
    (All-take (λ (row : BrickRow). IsShort (metric_at m row)) (to - from) (drop from rows)
    (All-drop (λ (row : BrickRow). IsShort (metric_at m row)) from rows (λ k d h. short k d h m (pos 0) (long k d h))))

-- what words have counted and summed of a chunk
pub counted_chunk : (ranges group : List ℕ) (dim metric from n : ℕ) (rows : List BrickRow) → group ≡ dim ∷ [] → from + n ≤ length rows → (words : List ℕ) (taken : List ℤ) → taken ≡ map (metric_at metric) (columns_between from (from + n) rows)
    → ((cells : List ℕ) → length cells ≡ length taken → ((k : ℕ) → k < length cells → get_or cells k 0 ≡ offset_at dim (row_at rows (from + k))) → AreCounted cells taken words)
    → AreCounted (map (cell_of ranges group) (columns_between from (from + n) rows)) (map (metric_at metric) (columns_between from (from + n) rows)) words
counted_chunk ranges group dim metric from n rows e within words taken is counts =
    let f = cell_of ranges group in
    let cells = map f (columns_between from (from + n) rows) in
    let long = chunk_long f from n rows within ∙ sym (chunk_long (metric_at metric) from n rows within) ∙ ap length (sym is) in
    subst (λ (ns : List ℤ). AreCounted cells ns words) is (counts cells long (chunk_cells ranges group dim from n rows e within))

-- cells of which sums are kept are so many
same_cells : (t : CellTallies) (n m cell : ℕ) (x : ℤ) → HasCells n t → HasCells m t → cell_tally t cell ≡ Total x → n ≡ m
same_cells Nothing n m cell x a b e = absurd (cc)
same_cells (Sums v) n m cell x a b e = omega (arith, a, b)
same_cells (Lows v) n m cell x a b e = omega (arith, a, b)
same_cells (Highs v) n m cell x a b e = omega (arith, a, b)

-- what is kept of cells takes what words have summed of a chunk
module _ (ranges group : List ℕ) (metric : ℕ) (chunk : List BrickRow) (words : List ℕ) (counted : AreCounted (map (cell_of ranges group) chunk) (map (metric_at metric) chunk) words) (cells : ℕ) (old new : CellTallies) (known : HasCells cells old) (within : cells ≤ length words) (takes : TakesSums words old new) where
  sum_taken : (item : BoundItem) (m n cell : ℕ) (x : ℤ) (before : List (List ℤ)) → metric_asked item ≡ Some m → m ≡ metric → HasCells n old → cell < n → tally_of before item ≡ Total x → cell_tally old cell ≡ tally_of before item
      → cell_tally new cell ≡ tally_of (before ++ map (λ row. row.metrics) (rows_in_cell ranges group cell chunk)) item
  sum_taken item m n cell x before asked same has below total is =
      let there : cell < length words = omega (arith, same_cells old n cells cell x has known (is ∙ total)) in
      let rows = rows_in_cell ranges group cell chunk in
      let ns = map (metric_at metric) rows in
      let summed : summed_in (get_or words cell 0) ≡ fold ◌+ℤ◌ (pos 0) ns = counted.sums cell there ∙ ap (fold ◌+ℤ◌ (pos 0)) (numbers_of_rows ranges group cell metric chunk) in
      takes.sums n cell x has below (is ∙ total)
      ∙ ap (λ s. Total (x +ℤ s)) summed
      ∙ ap Total (sym (sum_from x ns))
      ∙ sym (sums_kept x ns)
      ∙ ap (λ (t : Tally). fold tally_with t ns) (sym total)
      ∙ ap (λ k. fold tally_with (tally_of before item) (map (metric_at k) rows)) (sym same)
      ∙ tallied_more item m asked before rows

  pub takes_more : (item : BoundItem) → SumsAtMost metric item → TalliesMore ranges group item chunk old new
  takes_more (Group dim) s = record { long = takes.long; tallied = λ n cell before has below is. takes.others cell is }
  takes_more Count s = record { long = takes.long; tallied = λ n cell before has below is. takes.others cell is }
  takes_more (Sum m) s = record { long = takes.long; tallied = λ n cell before has below is. sum_taken (Sum m) m n cell _ before refl s has below refl is }
  takes_more (Avg m) s = record { long = takes.long; tallied = λ n cell before has below is. sum_taken (Avg m) m n cell _ before refl s has below refl is }
  takes_more (Min m) s = absurd s
  takes_more (Max m) s = absurd s
