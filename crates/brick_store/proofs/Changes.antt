-- A brick stays whole as rows are appended and taken out.
use Rattle.std.proofs.Common.{◌≡◌, ℕ, ◌+◌, ◌<◌, ◌≤◌, Bool, true, false, List, [], ◌∷◌, ◌++◌, All, length, map, refl, sym, ap, subst, ◌∙◌, arith, ◌^◌, cond, Vec, Global}
use Rattle.std.specs.List.{items_where_true}
use Rattle.std.proofs.lemmas.List.{length-map, map-append}
use Rattle.std.proofs.lemmas.List.Elements.{All-append, All-nil, All-weaker}
use Rattle.std.proofs.lemmas.List.Sums.{sum_by-cons, count_by-le-length}
use Rattle.cube_values.specs.BitRows.{set_bits}
use Rattle.cube_values.specs.Shapes.{IsSoundSize, IsSoundShape, bricks_of}
use Rattle.cube_values.specs.declared.shape.Shape.{Shape}
use Rattle.cube_values.specs.declared.row.CodedRow.{CodedRow}
use Rattle.cube_values.specs.BitRows.{BitRows}
use Rattle.cube_values.specs.EpochsVector.{IsVector, rows_of}
use Rattle.cube_values.specs.declared.entry.Entry.{Entry}
use Rattle.purge_plan.specs.Purged.{is_spared, spared_bits}
use Rattle.std.proofs.lemmas.List.FromFn.{length-map-range_with_len}
use Rattle.epochs_vector.specs.Entries.{Vector}
use Rattle.epochs_vector.proofs.Ends.{vector_rows}
use Rattle.brick_columns.specs.Rows.{BrickRow, BrickRows, Layout, LiesFrom, offset_row, layout_of}
use Rattle.brick_columns.proofs.KeptItems.{kept_all, kept_map}
use Rattle.brick_store.specs.Bricks.{Home, BrickState, IsRowOf}
use Rattle.brick_store.specs.Whole.{starts_of, row_with_coords, home_in, contract_view, IsWhole}
use Rattle.brick_store.specs.declared.brick.Brick.TheInside.{Inside}
use Rattle.brick_store.proofs.Starts.{row_lies, rows_back}

-- where all bits are set, all items are there
pub all_there : {A : Type 0} (bits : List Bool) (xs : List A) → length bits ≡ length xs → length xs ≤ set_bits bits → items_where_true bits xs ≡ xs
all_there [] [] l h = refl
all_there [] (x ∷ xs) l h = absurd (omega arith)
all_there (b ∷ bits) [] l h = absurd (omega arith)
all_there (true ∷ bits) (x ∷ xs) l h =
    let ones = sum_by-cons (λ b. cond b 1 0) true bits in
    ap (λ ys. x ∷ ys) (all_there bits xs (omega arith) (omega (arith, ones)))
all_there (false ∷ bits) (x ∷ xs) l h =
    let ones = sum_by-cons (λ b. cond b 1 0) false bits in
    absurd (omega (arith, ones, count_by-le-length (λ bit. bit) bits))

-- the rows of a brick and how many they are
pub seen_length : (b : Inside) (v : BrickState) → contract_view b ≡ v → length v.rows ≡ length b.columns.rows
seen_length b v e = ap (λ (v : BrickState). length v.rows) (sym e) ∙ length-map b.columns.rows (row_with_coords b.starts.items)

-- rows at the end
pub rows_appended : (starts : List ℕ) (home : Home) (old : List BrickRow) (more : List CodedRow) → starts ≡ starts_of home.sizes home.number → All IsSoundSize home.sizes → All (IsRowOf home) more → map (row_with_coords starts) (old ++ map (offset_row starts) more) ≡ map (row_with_coords starts) old ++ more
rows_appended starts home old more s h i =
    map-append (row_with_coords starts) old (map (offset_row starts) more)
    ∙ ap (λ rows. map (row_with_coords starts) old ++ rows) (ap (λ f. map (row_with_coords f) (map (offset_row f) more)) s ∙ rows_back home more h i)

-- rows whose bit is set
pub rows_left : (starts : List ℕ) (bits : List Bool) (old : List BrickRow) → map (row_with_coords starts) (items_where_true bits old) ≡ items_where_true bits (map (row_with_coords starts) old)
rows_left starts bits old = sym (kept_map (row_with_coords starts) bits old)

-- the rows of a batch lie in the brick's columns
pub all_lie : (b : Inside) (v : BrickState) (rows : List CodedRow) → contract_view b ≡ v → IsWhole b → All (IsRowOf v.home) rows → All (LiesFrom b.columns.layout b.starts.items) rows
all_lie b v rows e w h =
    let home : Home = home_in b in
    let own = subst (λ (v : BrickState). All (IsRowOf v.home) rows) (sym e) h in
    let ranges = ap (λ (l : Layout). l.ranges) w.layout in
    rw w.starts (All-weaker (IsRowOf home) (LiesFrom b.columns.layout (starts_of b.shape.sizes b.number)) (λ row i. row_lies home b.columns.layout row w.shape.sizes ranges refl i) rows own)

-- a brick with other columns, vector and bits is whole
pub whole_with : (b : Inside) (columns : BrickRows) (epochs : Vector) (keep : BitRows) (rows entries : ℕ) → IsWhole b → columns.layout ≡ b.columns.layout → IsVector epochs.entries (length columns.rows) → rows ≤ columns.spare → length columns.rows + rows ≤ keep.room → entries ≤ epochs.spare → All (IsRowOf (home_in b)) (map (row_with_coords b.starts.items) columns.rows) → IsWhole (record { shape = b.shape; number = b.number; starts = b.starts; columns = columns; epochs = epochs; keep = keep; spare_rows = rows; spare_entries = entries })
whole_with b columns epochs keep rows entries w l v c r e s =
    let all : List CodedRow = map (row_with_coords b.starts.items) columns.rows in
    record {
      shape = w.shape;
      number = w.number;
      starts = w.starts;
      layout = subst (λ (layout : Layout). layout ≡ layout_of b.shape layout.metrics) (sym l) w.layout;
      wide = subst (λ (layout : Layout). layout.metrics < 2 ^ 32) (sym l) w.wide;
      vector = v;
      columns = c;
      bits = r;
      entries = e;
      sound = subst (λ (layout : Layout). All (IsRowOf (record { sizes = b.shape.sizes; metrics = layout.metrics; number = b.number })) all) (sym l) s;
    }

-- and is seen with other rows and entries
pub view_with : (b : Inside) (columns : BrickRows) (epochs : Vector) (keep : BitRows) (spare_rows spare_entries : ℕ) (rows : List CodedRow) (entries : List Entry) → columns.layout ≡ b.columns.layout → map (row_with_coords b.starts.items) columns.rows ≡ rows → epochs.entries ≡ entries → contract_view (record { shape = b.shape; number = b.number; starts = b.starts; columns = columns; epochs = epochs; keep = keep; spare_rows = spare_rows; spare_entries = spare_entries }) ≡ record { home = home_in b; rows = rows; entries = entries; spare_rows = spare_rows; spare_entries = spare_entries }
view_with b columns epochs keep spare_rows spare_entries rows entries l r e =
    λ t. record {
      home = record { sizes = b.shape.sizes; metrics = (l t).metrics; number = b.number };
      rows = r t;
      entries = e t;
      spare_rows = spare_rows;
      spare_entries = spare_entries;
    }

-- rows that are left are of the brick
pub sound_left : (b : Inside) (bits : List Bool) → IsWhole b → All (IsRowOf (home_in b)) (map (row_with_coords b.starts.items) (items_where_true bits b.columns.rows))
sound_left b bits w =
    rw (rows_left b.starts.items bits b.columns.rows) (kept_all (IsRowOf (home_in b)) bits (map (row_with_coords b.starts.items) b.columns.rows) w.sound)

-- rows that are appended are of the brick
pub sound_appended : (b : Inside) (more : List CodedRow) → IsWhole b → All (IsRowOf (home_in b)) more → All (IsRowOf (home_in b)) (map (row_with_coords b.starts.items) (b.columns.rows ++ map (offset_row b.starts.items) more))
sound_appended b more w h =
    rw (rows_appended b.starts.items (home_in b) b.columns.rows more w.starts w.shape.sizes h) (All-append (IsRowOf (home_in b)) (map (row_with_coords b.starts.items) b.columns.rows) more w.sound h)

-- how many rows the vector has
pub rows_known : (b : Inside) → IsWhole b → rows_of b.epochs.entries ≡ length b.columns.rows
rows_known b w = vector_rows b.epochs.entries (length b.columns.rows) w.vector

pub length-spared : (epoch : ℕ) (entries : List Entry) → length (spared_bits epoch entries) ≡ rows_of entries
length-spared epoch entries = length-map-range_with_len (is_spared epoch entries) 0 (rows_of entries)

-- a brick without rows
pub made_whole : (shape copied : Shape) (number metrics : ℕ) (starts : Vec ℕ Global) (columns : BrickRows) (epochs : Vector) (keep : BitRows) → copied ≡ shape → IsSoundShape shape → number < bricks_of shape.sizes → metrics < 2 ^ 32 → starts.items ≡ starts_of shape.sizes number → columns.layout ≡ layout_of shape metrics → columns.rows ≡ [] → epochs.entries ≡ [] → IsWhole (record { shape = copied; number = number; starts = starts; columns = columns; epochs = epochs; keep = keep; spare_rows = 0; spare_entries = 0 })
made_whole shape copied number metrics starts columns epochs keep e sound n m s l r entries =
    let wide = ap (λ (layout : Layout). layout.metrics) l in
    record {
      shape = rw e sound;
      number = rw e n;
      starts = rw e s;
      layout = l ∙ (λ t. layout_of (sym e t) (sym wide t));
      wide = rw wide m;
      vector = rw (entries, r) (record { leads = refl; apart = tt });
      columns = omega arith;
      bits = omega (arith, ap length r);
      entries = omega arith;
      sound = rw r (All-nil (IsRowOf (record { sizes = copied.sizes; metrics = columns.layout.metrics; number = number })));
    }
