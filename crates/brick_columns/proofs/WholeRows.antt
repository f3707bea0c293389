-- The columns of a brick stay whole as they grow and as rows come and go.
use Rattle.std.proofs.Common.{◌≡◌, ℕ, ℤ, pos, ◌+◌, ◌-◌, ◌<◌, ◌≤◌, Bool, List, [], ◌∷◌, ◌++◌, length, map, get_or, All, Vec, Global, zero, suc, true, IsTrue, ◌^◌, sum, pow_mono, le_antisymm, refl, sym, ap, subst, ◌∙◌, arith}
use Rattle.std.specs.List.{AllZip, zip, items_where_true}
use Rattle.std.specs.Vec.{with_items}
use Rattle.std.proofs.lemmas.List.{length-map, map-append, length_push, with_items_is}
use Rattle.std.proofs.lemmas.List.Elements.{All-nil, All-push, All-map, All-weaker, length_all_zip}
use Rattle.std.proofs.lemmas.List.Sums.{count_by-le-length, sum_by-le}
use Rattle.std.proofs.lemmas.Slice.Zip.{length-zip, firsts-zip, seconds-zip}
use Rattle.cube_values.specs.BitRows.{set_bits}
use Rattle.brick_columns.specs.declared.columns.Columns.TheInside.{Inside}
use Rattle.brick_columns.specs.Lists.{column_rows, AreColumns, HaveSpare, IsGrown, IsSelection, ArePushed}
use Rattle.cube_values.specs.declared.shape.Size.{Size}
use Rattle.cube_values.specs.Shapes.{IsSoundSize}
use Rattle.packed_words.specs.Rows.{NumberRows, HasWidth}
use Rattle.brick_columns.specs.Rows.{BrickRow, BrickRows, IsBrickRow, IsWidth, HasShortMetrics, row_at, metric_at}
use Rattle.brick_columns.specs.Whole.{brick_rows, rows_in, layout_in, contract_view, IsWhole}
use Rattle.brick_columns.proofs.KeptItems.{kept_all, kept_length, kept_map, kept_zip}
use Rattle.brick_columns.proofs.RowLists.{map_map, zip_push, all_across, rows_length, rows_grown, rows_kept, rows_pushed, columns_grown, columns_kept, columns_pushed, columns_empty, columns_roomier, length_pushed, column_of_rows}

abbrev brick_row : List ℕ × List ℤ → BrickRow
brick_row p = record { offsets = p.0; metrics = p.1 }

-- how many rows there are
pub whole_length : (c : Inside) → IsWhole c → length (rows_in c) ≡ c.rows
whole_length c h =
    let metrics = column_rows c.metrics.items c.rows in
    length-map (zip c.offsets.rows metrics) brick_row ∙ omega (arith, length-zip c.offsets.rows metrics, h.long, rows_length c.metrics.items c.rows c.room h.metrics)

-- rows of offsets beside rows of metrics, of which some are kept or one is put at the end
brick_rows_kept : (bits : List Bool) (os : List (List ℕ)) (ms : List (List ℤ)) → brick_rows (items_where_true bits os) (items_where_true bits ms) ≡ items_where_true bits (brick_rows os ms)
brick_rows_kept bits os ms =
    ap (map brick_row) (sym (kept_zip bits os ms)) ∙ sym (kept_map brick_row bits (zip os ms))

brick_rows_push : (os : List (List ℕ)) (ms : List (List ℤ)) (row : BrickRow) → length os ≡ length ms → brick_rows (os ++ row.offsets ∷ []) (ms ++ row.metrics ∷ []) ≡ brick_rows os ms ++ row ∷ []
brick_rows_push os ms row e =
    ap (map brick_row) (zip_push os ms row.offsets row.metrics e) ∙ map-append brick_row (zip os ms) ((row.offsets, row.metrics) ∷ [])

-- how many rows contracts see
pub seen_length : (c : Inside) (v : BrickRows) → IsWhole c → contract_view c ≡ v → length v.rows ≡ c.rows
seen_length c v h e = ap (λ (v : BrickRows). length v.rows) (sym e) ∙ whole_length c h

-- The columns with other rows of offsets, lists of metrics, number of rows and room, short or not.
abbrev pub after : Inside → NumberRows → List (Vec ℤ Global) → ℕ → ℕ → Bool → Inside
after old os ms rows room short = record {
  ranges = old.ranges;
  offsets = os;
  metrics = with_items old.metrics ms;
  rows = rows;
  room = room;
  short = short;
}

-- The new columns are the old ones, grown.
pub record Grows (old new : Inside) : Type 0 where
  pub ranges : new.ranges ≡ old.ranges
  pub widths : new.offsets.widths ≡ old.offsets.widths
  pub offsets : new.offsets.rows ≡ old.offsets.rows
  pub metrics : AllZip IsGrown old.metrics.items new.metrics.items
  pub rows : new.rows ≡ old.rows
  pub short : new.short ≡ old.short

-- The new columns are the old ones with a row at the end.
pub record Takes (row : BrickRow) (old new : Inside) : Type 0 where
  pub ranges : new.ranges ≡ old.ranges
  pub offsets : new.offsets ≡ record old.offsets { rows = old.offsets.rows ++ row.offsets ∷ [] }
  pub metrics : ArePushed old.metrics.items row.metrics new.metrics.items
  pub rows : new.rows ≡ old.rows + 1
  pub room : new.room ≡ old.room
  pub short : IsTrue new.short → IsTrue old.short × HasShortMetrics row

-- The new columns are the old ones with the rows whose bit is set.
pub record Keeps (bits : List Bool) (old new : Inside) : Type 0 where
  pub ranges : new.ranges ≡ old.ranges
  pub offsets : new.offsets ≡ record old.offsets { rows = items_where_true bits old.offsets.rows }
  pub metrics : AllZip (IsSelection bits) old.metrics.items new.metrics.items
  pub rows : new.rows ≡ set_bits bits
  pub room : new.room ≡ old.room
  pub short : new.short ≡ old.short

-- lists that were written through a slice, where each is what R makes of the old one
written : {A : Type 0} (R : A → A → Type 0) (v : Vec A Global) (ys : List A) → AllZip R v.items ys → (with_items v ys).items ≡ ys
written R v ys h = with_items_is v ys (omega (arith, length_all_zip R v.items ys h, v.ok.0))

-- so R holds of what was written
by_lists : {A : Type 0} (R : A → A → Type 0) (v : Vec A Global) (ys : List A) → AllZip R v.items ys → AllZip R v.items (with_items v ys).items
by_lists R v ys h = rw (written R v ys h) h

pub grows_by : (old : Inside) (os : NumberRows) (ms : List (Vec ℤ Global)) (room : ℕ) → os.widths ≡ old.offsets.widths → os.rows ≡ old.offsets.rows → AllZip IsGrown old.metrics.items ms → Grows old (after old os ms old.rows room old.short)
grows_by old os ms room w o m =
    record { ranges = refl; widths = w; offsets = o; metrics = by_lists IsGrown old.metrics ms m; rows = refl; short = refl }

pub keeps_by : (bits : List Bool) (old : Inside) (os : NumberRows) (ms : List (Vec ℤ Global)) (n : ℕ) → os ≡ record old.offsets { rows = items_where_true bits old.offsets.rows } → AllZip (IsSelection bits) old.metrics.items ms → n ≡ set_bits bits → Keeps bits old (after old os ms n old.room old.short)
keeps_by bits old os ms n o m e =
    record { ranges = refl; offsets = o; metrics = by_lists (IsSelection bits) old.metrics ms m; rows = e; room = refl; short = refl }

-- a row that contracts say to be of the layout is of the columns' layout
pub row_of : (c : Inside) (v : BrickRows) (row : BrickRow) → contract_view c ≡ v → AllZip ◌<◌ row.offsets v.layout.ranges → length row.metrics ≡ v.layout.metrics → IsBrickRow (layout_in c) row
row_of c v row e o m =
    let is : IsBrickRow v.layout row = record { offsets = o; metrics = m } in
    subst (λ layout. IsBrickRow layout row) (ap (λ (v : BrickRows). v.layout) (sym e)) is

-- offsets below their ranges can be written in the widths of these
pub narrow : (offsets ranges widths : List ℕ) → AllZip ◌<◌ offsets ranges → AllZip IsWidth ranges widths → AllZip HasWidth offsets widths
narrow [] [] [] o w = tt
narrow [] [] (n ∷ widths) o w = absurd w
narrow [] (r ∷ ranges) widths o w = absurd o
narrow (x ∷ offsets) [] widths o w = absurd o
narrow (x ∷ offsets) (r ∷ ranges) [] o w = absurd w
narrow (x ∷ offsets) (r ∷ ranges) (n ∷ widths) o w = (omega (arith, o.0, w.0.enough), narrow offsets ranges widths o.1 w.1)

-- a range has one least width
pub same_widths : (ranges xs ys : List ℕ) → AllZip IsWidth ranges xs → AllZip IsWidth ranges ys → xs ≡ ys
same_widths [] [] [] p q = refl
same_widths [] [] (y ∷ ys) p q = absurd q
same_widths [] (x ∷ xs) ys p q = absurd p
same_widths (r ∷ ranges) [] ys p q = absurd p
same_widths (r ∷ ranges) (x ∷ xs) [] p q = absurd q
same_widths (r ∷ ranges) (x ∷ xs) (y ∷ ys) p q =
    let same : x ≡ y = le_antisymm (p.0.least y q.0.enough) (q.0.least x p.0.enough) in
    λ t. same t ∷ same_widths ranges xs ys p.1 q.1 t

pub takes_by : (row : BrickRow) (old : Inside) (os : NumberRows) (ms : List (Vec ℤ Global)) (short : Bool) → IsBrickRow (layout_in old) row → os ≡ record old.offsets { rows = old.offsets.rows ++ row.offsets ∷ [] } → ArePushed old.metrics.items row.metrics ms → (IsTrue short → IsTrue old.short × HasShortMetrics row) → Takes row old (after old os ms (old.rows + 1) old.room short)
takes_by row old os ms short r o m s =
    let width : length ms ≡ old.metrics.len = length_pushed old.metrics.items row.metrics ms r.metrics m ∙ sym old.metrics.ok.0 in
    record { ranges = refl; offsets = o; metrics = rw (with_items_is old.metrics ms width) m; rows = refl; room = refl; short = s }

-- the layout does not change
same_layout : (old new : Inside) → new.ranges ≡ old.ranges → length new.metrics.items ≡ length old.metrics.items → layout_in new ≡ layout_in old
same_layout old new r e = λ t. record { ranges = (r t).items; metrics = e t }

-- the rows whose bit is set
pub keeps_rows : (bits : List Bool) (old new : Inside) → length bits ≡ old.rows → Keeps bits old new → rows_in new ≡ items_where_true bits (rows_in old)
keeps_rows bits old new e k =
    let os = ap (λ (o : NumberRows). o.rows) k.offsets in
    let ms = ap (column_rows new.metrics.items) k.rows ∙ rows_kept bits old.metrics.items new.metrics.items old.rows e k.metrics in
    (λ t. brick_rows (os t) (ms t)) ∙ brick_rows_kept bits old.offsets.rows (column_rows old.metrics.items old.rows)

pub keeps_whole : (bits : List Bool) (old new : Inside) → length bits ≡ old.rows → Keeps bits old new → IsWhole old → IsWhole new
keeps_whole bits old new e k h =
    let width = length_all_zip (IsSelection bits) old.metrics.items new.metrics.items k.metrics in
    record {
      within = omega (arith, h.within, k.rows, k.room, count_by-le-length (λ bit. bit) bits);
      widths = rw (k.ranges, k.offsets) h.widths;
      long = ap (λ (o : NumberRows). length o.rows) k.offsets ∙ kept_length bits old.offsets.rows (h.long ∙ sym e) ∙ sym k.rows;
      room = omega (arith, h.room, k.room, ap (λ (o : NumberRows). o.room) k.offsets);
      metrics = rw (k.rows, k.room) (columns_kept bits old.metrics.items new.metrics.items old.rows old.room e k.metrics h.metrics);
      sound = rw (same_layout old new k.ranges (sym width), keeps_rows bits old new e k) (kept_all (IsBrickRow (layout_in old)) bits (rows_in old) h.sound);
      short = λ t. rw (keeps_rows bits old new e k) (kept_all HasShortMetrics bits (rows_in old) (h.short (subst (λ (b : Bool). IsTrue b) k.short t)));
    }

-- a row at the end
pub takes_rows : (row : BrickRow) (old new : Inside) → IsBrickRow (layout_in old) row → Takes row old new → IsWhole old → rows_in new ≡ rows_in old ++ row ∷ []
takes_rows row old new r p h =
    let os = ap (λ (o : NumberRows). o.rows) p.offsets in
    let ms = ap (column_rows new.metrics.items) p.rows ∙ rows_pushed old.metrics.items row.metrics new.metrics.items old.rows old.room h.metrics r.metrics p.metrics in
    let same = h.long ∙ sym (rows_length old.metrics.items old.rows old.room h.metrics) in
    (λ t. brick_rows (os t) (ms t)) ∙ brick_rows_push old.offsets.rows (column_rows old.metrics.items old.rows) row same

pub takes_whole : (row : BrickRow) (old new : Inside) → IsBrickRow (layout_in old) row → old.rows < old.room → Takes row old new → IsWhole old → IsWhole new
takes_whole row old new r l p h =
    let width = length_pushed old.metrics.items row.metrics new.metrics.items r.metrics p.metrics in
    record {
      within = omega (arith, p.rows, p.room);
      widths = rw (p.ranges, p.offsets) h.widths;
      long = ap (λ (o : NumberRows). length o.rows) p.offsets ∙ length_push old.offsets.rows row.offsets ∙ omega (arith, h.long, p.rows);
      room = omega (arith, h.room, p.room, ap (λ (o : NumberRows). o.room) p.offsets);
      metrics = rw (p.rows, p.room) (columns_pushed old.metrics.items row.metrics new.metrics.items old.rows old.room r.metrics p.metrics h.metrics);
      sound = rw (same_layout old new p.ranges width, takes_rows row old new r p h) (All-push (IsBrickRow (layout_in old)) (rows_in old) row h.sound r);
      short = λ t. let (before, last) = p.short t in rw (takes_rows row old new r p h) (All-push HasShortMetrics (rows_in old) row (h.short before) last);
    }

-- more memory
pub grows_rows : (old new : Inside) → Grows old new → rows_in new ≡ rows_in old
grows_rows old new g =
    let ms = ap (column_rows new.metrics.items) g.rows ∙ rows_grown old.metrics.items new.metrics.items old.rows g.metrics in
    λ t. brick_rows (g.offsets t) (ms t)

-- memory without room is not seen
pub grows_same : (old new : Inside) → Grows old new → new.room ≡ old.room → contract_view new ≡ contract_view old
grows_same old new g e =
    let width = length_all_zip IsGrown old.metrics.items new.metrics.items g.metrics in
    let layout = same_layout old new g.ranges (sym width) in
    let rows = grows_rows old new g in
    λ t. record { layout = layout t; rows = rows t; spare = e t - g.rows t }

grows_sound : (old new : Inside) → Grows old new → AreColumns new.metrics.items new.rows new.room → new.rows ≤ new.room → new.room ≤ new.offsets.room → IsWhole old → IsWhole new
grows_sound old new g ms l r h =
    let width = length_all_zip IsGrown old.metrics.items new.metrics.items g.metrics in
    record {
      within = l;
      widths = rw (g.ranges, g.widths) h.widths;
      long = ap length g.offsets ∙ h.long ∙ sym g.rows;
      room = r;
      metrics = ms;
      sound = rw (same_layout old new g.ranges (sym width), grows_rows old new g) h.sound;
      short = λ t. rw (grows_rows old new g) (h.short (subst (λ (b : Bool). IsTrue b) g.short t));
    }

pub grows_whole : (old new : Inside) → Grows old new → new.room ≡ old.room → old.offsets.room ≤ new.offsets.room → IsWhole old → IsWhole new
grows_whole old new g e r h =
    grows_sound old new g (rw (g.rows, e) (columns_grown old.metrics.items new.metrics.items old.rows old.room g.metrics h.metrics)) (omega (arith, h.within, g.rows)) (omega (arith, h.room)) h

-- memory for `more` rows
pub grows_roomier : (old : Inside) (os : NumberRows) (ms : List (Vec ℤ Global)) (more room : ℕ) → os.widths ≡ old.offsets.widths → os.rows ≡ old.offsets.rows → room ≤ os.room → AllZip IsGrown old.metrics.items ms → HaveSpare more ms → old.rows + more ≡ room → IsWhole old → IsWhole (after old os ms old.rows room old.short)
grows_roomier old os ms more room w o r m rm e h =
    let new = after old os ms old.rows room old.short in
    let by = grows_by old os ms room w o m in
    let wide : AreColumns ms old.rows room = columns_roomier ms old.rows old.room more room (columns_grown old.metrics.items ms old.rows old.room m h.metrics) rm e in
    grows_sound old new by (rw (written IsGrown old.metrics ms m) wide) (omega arith) r h

-- a column is what its rows have at its place
pub offset_rows : (c : Inside) → IsWhole c → map (λ (row : BrickRow). row.offsets) (rows_in c) ≡ c.offsets.rows
offset_rows c h =
    let ms = column_rows c.metrics.items c.rows in
    let same = rows_length c.metrics.items c.rows c.room h.metrics ∙ sym h.long in
    map_map brick_row (λ (row : BrickRow). row.offsets) (zip c.offsets.rows ms) ∙ firsts-zip c.offsets.rows ms same

-- the offsets of a row by its place
pub offsets_of_row : (rows : List BrickRow) (i : ℕ) → get_or (map (λ (row : BrickRow). row.offsets) rows) i [] ≡ (row_at rows i).offsets
offsets_of_row [] i = refl
offsets_of_row (row ∷ rows) zero = refl
offsets_of_row (row ∷ rows) (suc i) = offsets_of_row rows i

pub metrics_column : (c : Inside) (m : ℕ) (column : Vec ℤ Global) → IsWhole c → m < length c.metrics.items → map (metric_at m) (rows_in c) ≡ (get_or c.metrics.items m column).items
metrics_column c m column h l =
    let os = c.offsets.rows in
    let ms = column_rows c.metrics.items c.rows in
    let same = rows_length c.metrics.items c.rows c.room h.metrics ∙ sym h.long in
    map_map brick_row (metric_at m) (zip os ms) ∙ sym (map_map (λ p. p.1) (λ row. get_or row m (pos 0)) (zip os ms)) ∙ ap (map (λ row. get_or row m (pos 0))) (seconds-zip os ms same) ∙ column_of_rows c.metrics.items c.rows c.room m column (pos 0) h.metrics l

-- columns without rows
pub made_rows : (ms : List (Vec ℤ Global)) → brick_rows [] (column_rows ms 0) ≡ []
made_rows ms = refl

pub made_whole : (ranges : Vec ℕ Global) (os : NumberRows) (ms : Vec (Vec ℤ Global) Global) → AllZip IsWidth ranges.items os.widths → os.rows ≡ [] → All (λ c. c.items ≡ []) ms.items → IsWhole (record { ranges = ranges; offsets = os; metrics = ms; rows = 0; room = 0; short = true })
made_whole ranges os ms w o m = record {
  within = omega arith;
  widths = w;
  long = ap length o;
  room = omega arith;
  metrics = columns_empty ms.items m;
  sound = rw o (All-nil (IsBrickRow (record { ranges = ranges.items; metrics = length ms.items })));
  short = λ t. rw o (All-nil HasShortMetrics);
}

-- the range sizes of a shape
pub ranges_small : (sizes : List Size) → All IsSoundSize sizes → All (λ range. range < 2 ^ 32) (map (λ size. size.range) sizes)
ranges_small sizes h =
    All-map (λ range. range < 2 ^ 32) (λ (size : Size). size.range) sizes (All-weaker IsSoundSize (λ (size : Size). size.range < 2 ^ 32) (λ size s. omega (arith, s.fits, s.small)) sizes h)

-- the widths of a shape's ranges are few and small
pub width_small : (range width : ℕ) → range < 2 ^ 32 → IsWidth range width → width ≤ 32
width_small range width h w = w.least 32 (omega arith)

pub widths_small : (ranges widths : List ℕ) → All (λ range. range < 2 ^ 32) ranges → AllZip IsWidth ranges widths → All (λ width. width ≤ 32) widths
widths_small ranges widths h w =
    all_across IsWidth (λ range. range < 2 ^ 32) (λ width. width ≤ 32) ranges widths (λ range width is small. width_small range width small is) w h

pub widths_few : (ranges widths : List ℕ) → All (λ range. range < 2 ^ 32) ranges → AllZip IsWidth ranges widths → length ranges ≤ 16 → sum widths < 2 ^ 32
widths_few ranges widths h w few =
    let most = sum_by-le (λ x. x) 32 widths (widths_small ranges widths h w) in
    let long = length_all_zip IsWidth ranges widths w in
    omega (arith, most, long)

-- a range of few offsets has few numbers of its width
pub few_cells : (ranges widths : List ℕ) (i : ℕ) → AllZip IsWidth ranges widths → i < length widths → get_or ranges i 0 ≤ 64 → 2 ^ get_or widths i 0 ≤ 64
few_cells [] [] i w l h = absurd (omega arith)
few_cells [] (n ∷ widths) i w l h = absurd w
few_cells (r ∷ ranges) [] i w l h = absurd w
few_cells (r ∷ ranges) (n ∷ widths) zero w l h = let small : n ≤ 6 = w.0.least 6 (omega arith) in omega (arith, pow_mono small)
few_cells (r ∷ ranges) (n ∷ widths) (suc i) w l h = few_cells ranges widths i w.1 (omega arith) h
