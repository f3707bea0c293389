-- Cells that come to have more rows.
use Rattle.std.proofs.Common.{◌≡◌, ℕ, ◌+◌, ◌-◌, ◌<◌, ◌≤◌, ◌^◌, ◌==◌, ℤ, List, [], ◌++◌, length, map, take, drop, replicate, get_or, All, FitsSigned, None, count_by, sym, ap, subst, ◌∙◌, arith, length-append, length-drop, append_assoc}
use Rattle.std.specs.Int.{w64}
use Rattle.std.proofs.lemmas.List.{ext_get_or, get_or_default, get_or-replicate, get_or-take, get_or-drop, get_or-map, length-map, length-take-le, drop-drop, take-map, drop-map}
use Rattle.std.proofs.Math.Seq.{take-add}
use Rattle.std.proofs.lemmas.List.Elements.{All-nil, All-append, All-map, All-filter, All-take, All-drop}
use Rattle.cube_values.specs.declared.query.BoundItem.{BoundItem}
use Rattle.cube_values.specs.declared.query.BoundItem.TheVariants.{Group, Count, Sum, Min, Max, Avg}
use Rattle.cube_values.specs.declared.query.BoundQuery.{BoundQuery}
use Rattle.agg_fold.specs.Tallies.{metric_asked, tally_of, number_for, AreFew, IsSmall}
use Rattle.agg_fold.proofs.Tallying.{small_tally}
use Rattle.brick_columns.specs.Rows.{BrickRow, BrickRows, IsBrickRow, row_at}
use Rattle.brick_store.specs.Cells.{cell_count, cell_of, AreCellsFrom, CanFold, rows_in_cell, cell_metrics, cell_tally, HasCells, HasFitNumbers, HasSmallTallies, HoldRows, HoldMore, TalliesMore, columns_between}
use Rattle.brick_store.specs.declared.cell_tallies.CellTallies.{CellTallies}
use Rattle.brick_store.specs.declared.cell_tallies.CellTallies.TheVariants.{Nothing, Sums, Lows, Highs}
use Rattle.brick_store.specs.declared.dense.Dense.{Dense}
use Rattle.brick_store.proofs.CellKeys.{cell_below}
use Rattle.brick_store.proofs.CellRows.{count_rows, cell_append, metrics_append, few_in_cell}

-- cells that have no rows
pub hold_none : (ranges : List ℕ) (query : BoundQuery) (cells : ℕ) (d : Dense) → d.counts.items ≡ replicate {A = ℕ} cells 0
    → length d.tallies.items ≡ length query.items → All (HasCells cells) d.tallies.items
    → ((i cell : ℕ) → i < length query.items → cell < cells → cell_tally (get_or d.tallies.items i Nothing) cell ≡ tally_of [] (get_or query.items i (Group 0)))
    → length d.counts.items ≡ cells
    → HoldRows ranges query cells [] d
hold_none ranges query cells d counts items long tallies room = record {
  few = omega arith;
  fit = All-nil (HasFitNumbers query.items);
  room = room;
  counts = λ cell h. ap (λ (ns : List ℕ). get_or ns cell 0) counts ∙ get_or-replicate cells cell 0 0 h;
  items = items;
  long = long;
  tallies = tallies;
}

-- cells that have rows, and more
module _ (ranges : List ℕ) (query : BoundQuery) (cells : ℕ) (rows more : List BrickRow) (old new : Dense) (s : HoldRows ranges query cells rows old) where
  pub hold_more : length rows + length more < 2 ^ 63 → All (HasFitNumbers query.items) more
      → length new.counts.items ≡ length old.counts.items → length new.tallies.items ≡ length old.tallies.items
      → ((cell : ℕ) → cell < length old.counts.items → get_or new.counts.items cell 0 ≡ get_or old.counts.items cell 0 + count_by (λ c. c == cell) (map (cell_of ranges query.group) more))
      → ((i : ℕ) → i < length query.items → TalliesMore ranges query.group (get_or query.items i (Group 0)) more (get_or old.tallies.items i Nothing) (get_or new.tallies.items i Nothing))
      → HoldRows ranges query cells (rows ++ more) new
  hold_more few fit room items counts tallies = record {
    few = omega (arith, length-append rows more);
    fit = All-append (HasFitNumbers query.items) rows more s.fit fit;
    room = room ∙ s.room;
    counts = λ cell h.
        omega (arith, counts cell (omega (arith, s.room)), s.counts cell h, count_rows ranges query.group cell more, ap length (cell_append ranges query.group cell rows more), length-append (rows_in_cell ranges query.group cell rows) (rows_in_cell ranges query.group cell more));
    items = items ∙ s.items;
    long = λ i d h.
        let p : i < length query.items = omega (arith, items, s.items) in
        let here : HasCells cells (get_or new.tallies.items i Nothing) = (tallies i p).long cells (s.long i Nothing (omega (arith, s.items))) in
        subst (HasCells cells) (get_or_default new.tallies.items i Nothing d h) here;
    tallies = λ i cell p h.
        (tallies i p).tallied cells cell (cell_metrics ranges query.group cell rows) (s.long i Nothing (omega (arith, s.items))) h (s.tallies i cell p h)
        ∙ ap (λ (ms : List (List ℤ)). tally_of ms (get_or query.items i (Group 0))) (sym (metrics_append ranges query.group cell rows more));
  }

-- what cells have is small
small_of : (t : CellTallies) (cells n cell : ℕ) → HasCells cells t → HasCells n t → cell < n → (cell < cells → IsSmall (cell_tally t cell)) → IsSmall (cell_tally t cell)
small_of Nothing cells n cell a b h small = tt
small_of (Sums v) cells n cell a b h small = small (omega (arith, a, b))
small_of (Lows v) cells n cell a b h small = tt
small_of (Highs v) cells n cell a b h small = tt

module _ (ranges : List ℕ) (query : BoundQuery) (cells : ℕ) (rows : List BrickRow) (d : Dense) (s : HoldRows ranges query cells rows d) where
  few_metrics : (i cell : ℕ) → i < length query.items → AreFew (get_or query.items i (Group 0)) (cell_metrics ranges query.group cell rows)
  few_metrics i cell p =
      let fits = λ (m : List ℤ). FitsSigned w64 (number_for (get_or query.items i (Group 0)) m) in
      let test = λ (row : BrickRow). cell_of ranges query.group row == cell in
      record {
        fit = All-map fits (λ (row : BrickRow). row.metrics) (rows_in_cell ranges query.group cell rows) (All-filter test (λ (row : BrickRow). fits row.metrics) rows (λ k e h. s.fit k e h i (Group 0) p));
        few = omega (arith, s.few, length-map (rows_in_cell ranges query.group cell rows) (λ (row : BrickRow). row.metrics), few_in_cell ranges query.group cell rows);
      }

  pub small_tallies : All HasSmallTallies d.tallies.items
  small_tallies i e h n cell known below =
      let t = get_or d.tallies.items i e in
      let p : i < length query.items = omega (arith, s.items) in
      let same : get_or d.tallies.items i Nothing ≡ t = get_or_default d.tallies.items i Nothing e h in
      small_of t cells n cell (s.long i e h) known below (λ within.
      subst (λ (u : CellTallies). IsSmall (cell_tally u cell)) same
      (subst IsSmall (sym (s.tallies i cell p within)) (small_tally (cell_metrics ranges query.group cell rows) (get_or query.items i (Group 0)) (few_metrics i cell p))))

-- rows of columns from one place up to another
pub between_long : (from to : ℕ) (rows : List BrickRow) → from ≤ to → to ≤ length rows → length (columns_between from to rows) ≡ to - from
between_long from to rows p q = length-take-le (to - from) (drop from rows) (omega (arith, length-drop from rows))

pub between_fit : (items : List BoundItem) (from to : ℕ) (rows : List BrickRow) → All (HasFitNumbers items) rows → All (HasFitNumbers items) (columns_between from to rows)
between_fit items from to rows h = All-take (HasFitNumbers items) (to - from) (drop from rows) (All-drop (HasFitNumbers items) from rows h)

-- rows that come one part after another
pub hold_then : (ranges : List ℕ) (query : BoundQuery) (cells : ℕ) (a b : List BrickRow) (old mid new : Dense) → HoldMore ranges query cells a old mid → HoldMore ranges query cells b mid new → HoldMore ranges query cells (a ++ b) old new
hold_then ranges query cells a b old mid new first second rows few s =
    let long = length-append a b in
    let front = length-append rows a in
    subst (λ (rs : List BrickRow). HoldRows ranges query cells rs new) (append_assoc rows a b)
    (second (rows ++ a) (omega (arith, few, long, front)) (first rows (omega (arith, few, long)) s))

pub between_join : (from at to : ℕ) (rows : List BrickRow) → from ≤ at → at ≤ to → columns_between from at rows ++ columns_between at to rows ≡ columns_between from to rows
between_join from at to rows p q =
    let there : from + (at - from) ≡ at = omega arith in
    let both : at - from + (to - at) ≡ to - from = omega arith in
    ap (λ (l : List BrickRow). columns_between from at rows ++ take (to - at) l) (ap (λ n. drop n rows) (sym there) ∙ sym (drop-drop (at - from) from rows))
    ∙ sym (take-add (at - from) (to - at) (drop from rows))
    ∙ ap (λ n. take n (drop from rows)) both

pub between_none : (from : ℕ) (rows : List BrickRow) → columns_between from from rows ≡ []
between_none from rows =
    let none : from - from ≡ 0 = omega arith in
    ap (λ n. take n (drop from rows)) none

pub between_map : {X : Type 0} (f : BrickRow → X) (from to : ℕ) (rows : List BrickRow) → take (to - from) (drop from (map f rows)) ≡ map f (columns_between from to rows)
between_map f from to rows = ap (take (to - from)) (drop-map f from rows) ∙ take-map f (to - from) (drop from rows)

-- the rows from one on, one by one
pub cells_are : (f : BrickRow → ℕ) (from : ℕ) (rows : List BrickRow) (cells : List ℕ) → from + length cells ≤ length rows → ((k : ℕ) → k < length cells → get_or cells k 0 ≡ f (row_at rows (from + k)))
    → cells ≡ map f (columns_between from (from + length cells) rows)
cells_are f from rows cells within each =
    let none : BrickRow = record { offsets = []; metrics = [] } in
    let chunk = columns_between from (from + length cells) rows in
    let long : length chunk ≡ length cells = omega (arith, between_long from (from + length cells) rows (omega arith) within) in
    ext_get_or 0 cells (map f chunk) (omega (arith, long, length-map chunk f)) (λ k h.
    each k h
    ∙ ap f (sym (get_or-take (from + length cells - from) (drop from rows) k none (omega arith) ∙ get_or-drop from rows k none))
    ∙ sym (get_or-map f chunk k none 0 (omega (arith, long))))

-- an item that asks for no metric
pub more_unasked : (ranges group : List ℕ) (item : BoundItem) (rows : List BrickRow) (t : CellTallies) → metric_asked item ≡ None → TalliesMore ranges group item rows t t
more_unasked ranges group (Group dim) rows t e = record { long = λ n h. h; tallied = λ n cell before h p is. is }
more_unasked ranges group Count rows t e = record { long = λ n h. h; tallied = λ n cell before h p is. is }
more_unasked ranges group (Sum m) rows t e = absurd (cc)
more_unasked ranges group (Min m) rows t e = absurd (cc)
more_unasked ranges group (Max m) rows t e = absurd (cc)
more_unasked ranges group (Avg m) rows t e = absurd (cc)

-- rows of columns, of which these are the cells
module _ (query : BoundQuery) (columns : BrickRows) (fold : CanFold query columns) (from : ℕ) (cells : List ℕ) (within : from + length cells ≤ length columns.rows) (are : AreCellsFrom columns query.group from cells) where
  pub cells_within : All (λ cell. cell < cell_count columns.layout.ranges query.group) cells
  cells_within k d h =
      let f = cell_of columns.layout.ranges query.group in
      let chunk = columns_between from (from + length cells) columns.rows in
      let none : BrickRow = record { offsets = []; metrics = [] } in
      let long : length chunk ≡ length cells = omega (arith, between_long from (from + length cells) columns.rows (omega arith) within) in
      let brick = All-take (IsBrickRow columns.layout) (from + length cells - from) (drop from columns.rows) (All-drop (IsBrickRow columns.layout) from columns.rows fold.rows) k none (omega (arith, long)) in
      subst (λ (c : ℕ). c < cell_count columns.layout.ranges query.group) (sym (ap (λ (cs : List ℕ). get_or cs k d) are ∙ get_or-map f chunk k none d (omega (arith, long))))
      (cell_below columns.layout query.group (get_or chunk k none) brick fold.sound.group)

  pub chunk_more : (rows : List BrickRow) (old new : Dense) → HoldRows columns.layout.ranges query (cell_count columns.layout.ranges query.group) rows old
      → length rows + length (columns_between from (from + length cells) columns.rows) < 2 ^ 63
      → length new.counts.items ≡ length old.counts.items → length new.tallies.items ≡ length old.tallies.items
      → ((cell : ℕ) → cell < length old.counts.items → get_or new.counts.items cell 0 ≡ get_or old.counts.items cell 0 + count_by (λ c. c == cell) cells)
      → ((i : ℕ) → i < length query.items → TalliesMore columns.layout.ranges query.group (get_or query.items i (Group 0)) (columns_between from (from + length cells) columns.rows) (get_or old.tallies.items i Nothing) (get_or new.tallies.items i Nothing))
      → HoldRows columns.layout.ranges query (cell_count columns.layout.ranges query.group) (rows ++ columns_between from (from + length cells) columns.rows) new
  chunk_more rows old new s few room items counts tallies =
      hold_more columns.layout.ranges query (cell_count columns.layout.ranges query.group) rows (columns_between from (from + length cells) columns.rows) old new s few
      (between_fit query.items from (from + length cells) columns.rows fold.fit) room items
      (λ cell h. counts cell h ∙ ap (λ (cs : List ℕ). get_or old.counts.items cell 0 + count_by (λ c. c == cell) cs) are) tallies

  pub chunk_more_by : (n : ℕ) → n ≡ length cells → (rows : List BrickRow) (old new : Dense) → HoldRows columns.layout.ranges query (cell_count columns.layout.ranges query.group) rows old
      → length rows + length (columns_between from (from + n) columns.rows) < 2 ^ 63
      → length new.counts.items ≡ length old.counts.items → length new.tallies.items ≡ length old.tallies.items
      → ((cell : ℕ) → cell < length old.counts.items → get_or new.counts.items cell 0 ≡ get_or old.counts.items cell 0 + count_by (λ c. c == cell) cells)
      → ((i : ℕ) → i < length query.items → TalliesMore columns.layout.ranges query.group (get_or query.items i (Group 0)) (columns_between from (from + length cells) columns.rows) (get_or old.tallies.items i Nothing) (get_or new.tallies.items i Nothing))
      → HoldRows columns.layout.ranges query (cell_count columns.layout.ranges query.group) (rows ++ columns_between from (from + n) columns.rows) new
  chunk_more_by n e rows old new s few room items counts tallies =
      subst (λ (k : ℕ). HoldRows columns.layout.ranges query (cell_count columns.layout.ranges query.group) (rows ++ columns_between from (from + k) columns.rows) new) (sym e)
      (chunk_more rows old new s (subst (λ (k : ℕ). length rows + length (columns_between from (from + k) columns.rows) < 2 ^ 63) e few) room items counts tallies)

-- counts are few
pub few_counts : (ranges : List ℕ) (query : BoundQuery) (cells more : ℕ) (rows : List BrickRow) (d : Dense) → HoldRows ranges query cells rows d → length rows + more < 2 ^ 63 → All (λ n. n + more < 2 ^ 64) d.counts.items
few_counts ranges query cells more rows d s few k e h =
    let p : k < cells = omega (arith, s.room) in
    omega (arith, s.counts k p, get_or_default d.counts.items k e 0 h, few_in_cell ranges query.group k rows)
