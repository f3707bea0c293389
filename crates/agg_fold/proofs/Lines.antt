-- The line of a key, by what is kept of its rows.
use Rattle.std.proofs.Common.{◌≡◌, ℕ, zero, suc, ◌<◌, ℤ, pos, Bool, true, false, cond, ◌==◌, nat_eq, ◌||◌, List, [], ◌∷◌, length, map, filter, fold, get_or, All, FitsSigned, slice_get, slice_index, unwrap_or, refl, sym, ap, ◌∙◌, ⊎_elim, arith}
use Rattle.std.specs.Int.{int_min, int_max, w64}
use Rattle.std.specs.List.{list_any, flat_map, IsDistinct}
use Rattle.std.specs.Str.{bytes_eq}
use Rattle.std.proofs.lemmas.Bool.{cases_Bool, false≢true}
use Rattle.std.proofs.lemmas.Bool.Decides.{nat_tests}
use Rattle.std.proofs.lemmas.Cmp.{nat_eq_equiv}
use Rattle.std.proofs.lemmas.Map.Views.{list_any-from_Contains}
use Rattle.std.proofs.lemmas.Int.{ints, clamps}
use Rattle.std.proofs.lemmas.List.{length-map}
use Rattle.std.proofs.lemmas.List.Elements.{All-head, All-tail, All-filter, filter_passes}
use Rattle.cube_values.specs.Queries.{IsSoundItem}
use Rattle.cube_values.specs.declared.query.BoundQuery.{BoundQuery}
use Rattle.cube_values.specs.Answer.{total, average, value_at, key_of, item_of, rows_of_key, metric_of, field_of}
use Rattle.cube_values.specs.SameValues.{same_values}
use Rattle.cube_values.specs.Values.{values_eq}
use Rattle.cube_values.specs.declared.query.BoundItem.{BoundItem}
use Rattle.cube_values.specs.declared.query.BoundItem.TheVariants.{Group, Count, Sum, Min, Max, Avg}
use Rattle.cube_values.specs.declared.row.CodedRow.{CodedRow}
use Rattle.cube_values.specs.declared.row.Row.{Row}
use Rattle.cube_values.specs.declared.table.Field.TheVariants as field
use Rattle.cube_values.specs.declared.value.Value.{Value}
use Rattle.cube_values.specs.declared.value.Value.TheVariants.{Int}
use Rattle.agg_fold.specs.Tallies.{metric_number, numbers_of, lowest, highest, tally_of, number_for}
use Rattle.agg_fold.specs.Coded.{IsQueryRow, coded_key, metrics_with, value_for, values_for, row_for}
use Rattle.agg_fold.specs.Places.{is_among}
use Rattle.agg_fold.specs.Tables.{line_of, line_of_tallies}
use Rattle.agg_fold.proofs.Parted.{metrics_among, length_parted, tally_parted}
use Rattle.agg_fold.specs.Lines.{decoded_key, key_field, field_for}

-- ---- what a key stands for

value_here : (lists : List (List (List ℕ))) (coords : List ℕ) (dim : ℕ) → dim < length coords → value_for (unwrap_or (slice_get lists dim) []) (slice_index coords dim) ≡ unwrap_or (slice_get (values_for lists coords) dim) (Int (pos 0))
value_here lists [] dim h = absurd (omega arith)
value_here [] (c ∷ coords) zero h = refl
value_here [] (c ∷ coords) (suc dim) h = value_here [] coords dim (omega arith)
value_here (texts ∷ lists) (c ∷ coords) zero h = refl
value_here (texts ∷ lists) (c ∷ coords) (suc dim) h = value_here lists coords dim (omega arith)

pub key_is : (lists : List (List (List ℕ))) (group : List ℕ) (row : CodedRow) → All (λ dim. dim < length row.coords) group → decoded_key lists group (coded_key group row.coords) ≡ key_of group (row_for lists row)
key_is lists [] row h = refl
key_is lists (dim ∷ group) row h =
    λ i. value_here lists row.coords dim (All-head (λ d. d < length row.coords) dim group h) i ∷ key_is lists group row (All-tail (λ d. d < length row.coords) dim group h) i

equal : (a b : ℕ) → (a == b) ≡ true → a ≡ b
equal a b h = grind (arith, nat_tests)

key_field_is : (group : List ℕ) (row : Row) (dim : ℕ) → list_any (nat_eq dim) group ≡ true → key_field group (key_of group row) dim ≡ field_of (value_at row dim)
key_field_is [] row dim h = absurd (false≢true h)
key_field_is (d ∷ group) row dim h =
    ⊎_elim
    (λ same. ap (λ (b : Bool). cond b (field_of (value_at row d)) (key_field group (key_of group row) dim)) same ∙ ap (λ (n : ℕ). field_of (value_at row n)) (sym (equal dim d same)))
    (λ differ. ap (λ (b : Bool). cond b (field_of (value_at row d)) (key_field group (key_of group row) dim)) differ ∙ key_field_is group row dim (ap (λ (b : Bool). b || list_any (nat_eq dim) group) (sym differ) ∙ h))
    (cases_Bool (dim == d))

-- ---- items

rows_metric : (lists : List (List (List ℕ))) (m : ℕ) (rows : List CodedRow) → metric_of m (map (row_for lists) rows) ≡ numbers_of m (map (λ row. row.metrics) rows)
rows_metric lists m [] = refl
rows_metric lists m (row ∷ rows) = λ i. metric_number m row.metrics ∷ rows_metric lists m rows i

low_enough : (n : ℤ) → FitsSigned w64 n → int_min highest n ≡ n
low_enough n h = omega (arith, ints, clamps)

high_enough : (n : ℤ) → FitsSigned w64 n → int_max lowest n ≡ n
high_enough n h = omega (arith, ints, clamps)

pub item_is : (lists : List (List (List ℕ))) (group : List ℕ) (values : List Value) (row : CodedRow) (rows : List CodedRow) (item : BoundItem)
    → key_of group (row_for lists row) ≡ values → IsSoundItem group (length row.metrics) item → FitsSigned w64 (number_for item row.metrics)
    → let metrics = map (λ (r : CodedRow). r.metrics) (row ∷ rows) in item_of (map (row_for lists) (row ∷ rows)) item ≡ field_for group values (length metrics) item (tally_of metrics item)
item_is lists group values row rows (Group dim) e sound fit =
    sym (key_field_is group (row_for lists row) dim (list_any-from_Contains nat_eq_equiv dim group sound)) ∙ ap (λ (v : List Value). key_field group v dim) e
item_is lists group values row rows Count e sound fit = ap (λ (n : ℕ). field.Whole (pos n)) (length-map (row ∷ rows) (row_for lists) ∙ sym (length-map (row ∷ rows) (λ (r : CodedRow). r.metrics)))
item_is lists group values row rows (Sum m) e sound fit = ap (λ (ns : List ℤ). field.Whole (total ns)) (rows_metric lists m (row ∷ rows))
item_is lists group values row rows (Min m) e sound fit = λ i. field.Whole (fold int_min (sym (low_enough (metric_number m row.metrics) fit) i) (rows_metric lists m rows i))
item_is lists group values row rows (Max m) e sound fit = λ i. field.Whole (fold int_max (sym (high_enough (metric_number m row.metrics) fit) i) (rows_metric lists m rows i))
item_is lists group values row rows (Avg m) e sound fit =
    let metrics = map (λ (r : CodedRow). r.metrics) (row ∷ rows) in
    let count : length (metric_of m (map (row_for lists) (row ∷ rows))) ≡ length metrics = ap length (rows_metric lists m (row ∷ rows)) ∙ length-map metrics (metric_number m) in
    λ i. average (total (rows_metric lists m (row ∷ rows) i)) (count i)

-- ---- lines

map_agree : {X Y : Type 0} (f g : X → Y) (xs : List X) → All (λ x. f x ≡ g x) xs → map f xs ≡ map g xs
map_agree f g [] h = refl
map_agree f g (x ∷ xs) h = λ i. All-head (λ y. f y ≡ g y) x xs h i ∷ map_agree f g xs (All-tail (λ y. f y ≡ g y) x xs h) i

module _ (lists : List (List (List ℕ))) (query : BoundQuery) (values : List Value) (ks : List (List ℕ)) where
  -- a row has the values just where its key is among the keys
  abbrev pub Agrees : CodedRow → Type 0
  Agrees row = values_eq (key_of query.group (row_for lists row)) values ≡ is_among ks (coded_key query.group row.coords)

  abbrev has : CodedRow → Bool
  has row = is_among ks (coded_key query.group row.coords)

  rows_with : (rows : List CodedRow) → All Agrees rows → rows_of_key query.group (map (row_for lists) rows) values ≡ map (row_for lists) (filter has rows)
  rows_with [] h = refl
  rows_with (row ∷ rows) h =
      (λ i. cond (All-head Agrees row rows h i) (row_for lists row ∷ rows_with rows (All-tail Agrees row rows h) i) (rows_with rows (All-tail Agrees row rows h) i))
      ∙ at (has row)
    where
      at : (b : Bool) → cond b (row_for lists row ∷ map (row_for lists) (filter has rows)) (map (row_for lists) (filter has rows)) ≡ map (row_for lists) (cond b (row ∷ filter has rows) (filter has rows))
      at true = refl
      at false = refl

  items_are : (rows : List CodedRow) → 0 < length (map (λ (r : CodedRow). r.metrics) rows) → All (IsQueryRow query) rows → All (λ row. key_of query.group (row_for lists row) ≡ values) rows
      → map (item_of (map (row_for lists) rows)) query.items ≡ line_of_tallies query values (map (λ (r : CodedRow). r.metrics) rows)
  items_are [] some taken same = absurd (omega arith)
  items_are (row ∷ rows) some taken same =
      let first = All-head (IsQueryRow query) row rows taken in
      map_agree _ _ query.items (λ k d h. item_is lists query.group values row rows (get_or query.items k d) (All-head (λ r. key_of query.group (row_for lists r) ≡ values) row rows same) (first.sound.items k d h) (first.fit k d h))

  pub line_is : (rows : List CodedRow) → IsDistinct bytes_eq ks → All (IsQueryRow query) rows → All Agrees rows → 0 < length (flat_map (metrics_with query.group rows) ks)
      → line_of lists query rows values ≡ line_of_tallies query values (flat_map (metrics_with query.group rows) ks)
  line_is rows once taken agree some =
      let n : length (flat_map (metrics_with query.group rows) ks) ≡ length (metrics_among query.group rows ks) = length_parted query.group rows ks once in
      ap (λ (rs : List Row). map (item_of rs) query.items) (rows_with rows agree)
      ∙ items_are (filter has rows) (omega arith) (All-filter has (IsQueryRow query) rows taken)
      (λ k d h. (same_values (key_of query.group (row_for lists (get_or (filter has rows) k d))) values).0 (All-filter has Agrees rows agree k d h ∙ filter_passes has rows k d h))
      ∙ (λ i. map (λ item. field_for query.group values (sym n i) item (sym (tally_parted query.group rows ks once item) i)) query.items)
