-- In a table each column has fields of one variant.
use Rattle.std.proofs.Common.{◌≡◌, ◌∙◌, ℕ, zero, suc, ◌<◌, Bool, true, false, ◌||◌, cond, List, [], ◌∷◌, length, map, filter, fold, Option, Some, None, get_or, slice_get, unwrap_or, inl, inr, refl, sym, ap, subst, arith, pos}
use Rattle.std.specs.List.{AllByRecursion, Contains, list_any}
use Rattle.std.specs.Ordering.{match_ordering}
use Rattle.std.specs.declared.cmp.Ordering.{Ordering}
use Rattle.std.specs.declared.cmp.Ordering.TheVariants.{Less, Equal, Greater}
use Rattle.std.proofs.lemmas.Bool.{cases_Bool, false≢true}
use Rattle.cube_values.specs.Answer.{average_of, field_of, greatest_of, item_of, key_of, keys_of, least_of, metric_of, rows_of_key, shared_value, sum_of, table_of, value_at, with_key}
use Rattle.cube_values.specs.First.{field_at}
use Rattle.cube_values.specs.SameValues.{values_eq_equiv}
use Rattle.cube_values.specs.Values.{values_cmp, values_eq}
use Rattle.cube_values.specs.declared.query.BoundItem.{BoundItem}
use Rattle.cube_values.specs.declared.query.BoundItem.TheVariants.{Group, Count, Sum, Min, Max, Avg}
use Rattle.cube_values.specs.declared.row.CodedRow.{CodedRow}
use Rattle.cube_values.specs.declared.row.Row.{Row}
use Rattle.cube_values.specs.declared.table.Field.{Field}
use Rattle.cube_values.specs.declared.value.Value.{Value}
use Rattle.agg_fold.specs.Coded.{row_for, value_for, values_for}
use Rattle.top_rows.specs.Order.{variant_of}

-- ---- rows

-- The variant of the fields of a dimension, by its texts.
abbrev variant_by : List (List ℕ) → ℕ
variant_by [] = 1
variant_by (text ∷ texts) = 0

-- That of the dimension at a place, in rows of so many coordinates.
abbrev pub dim_variant : ℕ → List (List (List ℕ)) → ℕ → ℕ
dim_variant zero lists place = 1
dim_variant (suc n) [] place = 1
dim_variant (suc n) (texts ∷ lists) zero = variant_by texts
dim_variant (suc n) (texts ∷ lists) (suc place) = dim_variant n lists place

value_variant : (texts : List (List ℕ)) (coord : ℕ) → variant_of (field_of (value_for texts coord)) ≡ variant_by texts
value_variant [] coord = refl
value_variant (text ∷ texts) coord = refl

abbrev value_in : List Value → ℕ → Value
value_in values place = value_at (record { dims = values; metrics = [] }) place

numbers_variant : (coords : List ℕ) (place : ℕ) → variant_of (field_of (value_in (values_for [] coords) place)) ≡ 1
numbers_variant [] place = refl
numbers_variant (coord ∷ coords) zero = refl
numbers_variant (coord ∷ coords) (suc place) = numbers_variant coords place

values_variant : (lists : List (List (List ℕ))) (coords : List ℕ) (place : ℕ)
    → variant_of (field_of (value_in (values_for lists coords) place)) ≡ dim_variant (length coords) lists place
values_variant lists [] place = refl
values_variant [] (coord ∷ coords) place = numbers_variant (coord ∷ coords) place
values_variant (texts ∷ lists) (coord ∷ coords) zero = value_variant texts coord
values_variant (texts ∷ lists) (coord ∷ coords) (suc place) = values_variant lists coords place

-- Rows whose values at each place are of the variant that it has.
abbrev pub AreAlike : (ℕ → ℕ) → List Row → Type 0
AreAlike kind rows = AllByRecursion (λ row. (place : ℕ) → variant_of (field_of (value_at row place)) ≡ kind place) rows

pub coded_alike : (n : ℕ) (lists : List (List (List ℕ))) (rows : List CodedRow)
    → AllByRecursion (λ row. length row.coords ≡ n) rows → AreAlike (dim_variant n lists) (map (row_for lists) rows)
coded_alike n lists [] h = tt
coded_alike n lists (row ∷ rows) h = (
  λ place. values_variant lists row.coords place ∙ ap (λ (m : ℕ). dim_variant m lists place) h.0,
  coded_alike n lists rows h.1,
)

filter_alike : (kind : ℕ → ℕ) (p : Row → Bool) (rows : List Row) → AreAlike kind rows → AreAlike kind (filter p rows)
filter_alike kind p [] h = tt
filter_alike kind p (row ∷ rows) h =
    elim (cases_Bool (p row)) [
      | inl passes ↦
          coe 1 0 (i. AreAlike kind (cond (passes i) (row ∷ filter p rows) (filter p rows)))
          (h.0, filter_alike kind p rows h.1)
      | inr fails ↦
          coe 1 0 (i. AreAlike kind (cond (fails i) (row ∷ filter p rows) (filter p rows))) (filter_alike kind p rows h.1)
    ]

-- ---- lines

-- The variant of an item over rows, of which there is one at least.
abbrev item_variant : (ℕ → ℕ) → BoundItem → ℕ
item_variant kind (Group place) = kind place
item_variant kind Count = 1
item_variant kind (Sum metric) = 1
item_variant kind (Min metric) = 1
item_variant kind (Max metric) = 1
item_variant kind (Avg metric) = 2

abbrev items_variant : (ℕ → ℕ) → List BoundItem → ℕ → ℕ
items_variant kind [] k = 3
items_variant kind (item ∷ items) zero = item_variant kind item
items_variant kind (item ∷ items) (suc k) = items_variant kind items k

item_is : (kind : ℕ → ℕ) (row : Row) (rows : List Row) (item : BoundItem) → AreAlike kind (row ∷ rows)
    → variant_of (item_of (row ∷ rows) item) ≡ item_variant kind item
item_is kind row rows (Group place) h = h.0 place
item_is kind row rows Count h = refl
item_is kind row rows (Sum metric) h = refl
item_is kind row rows (Min metric) h = refl
item_is kind row rows (Max metric) h = refl
item_is kind row rows (Avg metric) h = refl

line_is : (kind : ℕ → ℕ) (row : Row) (rows : List Row) (items : List BoundItem) (k : ℕ) → AreAlike kind (row ∷ rows)
    → variant_of (field_at (map (item_of (row ∷ rows)) items) k) ≡ items_variant kind items k
line_is kind row rows [] k h = refl
line_is kind row rows (item ∷ items) zero h = item_is kind row rows item h
line_is kind row rows (item ∷ items) (suc k) h = line_is kind row rows items k h

-- ---- keys

-- Some of the rows have the key.
record HasRows (group : List ℕ) (rows : List Row) (key : List Value) : Type 0 where
  row : Row
  others : List Row
  are : rows_of_key group rows key ≡ row ∷ others

pub record IsSome (p : Row → Bool) (rows : List Row) : Type 0 where
  row : Row
  others : List Row
  are : filter p rows ≡ row ∷ others

or_behind : (a b : Bool) → b ≡ true → (a || b) ≡ true
or_behind true b h = refl
or_behind false b h = h

or_before : (a b : Bool) → a ≡ true → (a || b) ≡ true
or_before true b h = refl
or_before false b h = absurd (false≢true h)

some_passes : (p : Row → Bool) (rows : List Row) → list_any p rows ≡ true → IsSome p rows
some_passes p [] h = absurd (false≢true h)
some_passes p (row ∷ rows) h =
    elim (cases_Bool (p row)) [
      | inl passes ↦
          record {
            row = row;
            others = filter p rows;
            are = ap (λ (b : Bool). cond b (row ∷ filter p rows) (filter p rows)) passes;
          }
      | inr fails ↦
          let r = some_passes p rows (sym (ap (λ (b : Bool). b || list_any p rows) fails) ∙ h) in
          record {
            row = r.row;
            others = r.others;
            are = ap (λ (b : Bool). cond b (row ∷ filter p rows) (filter p rows)) fails ∙ r.are;
          }
    ]

own_key : (group : List ℕ) (row : Row) → values_eq (key_of group row) (key_of group row) ≡ true
own_key group row = values_eq_equiv.refl (key_of group row)

rows_have_keys : (group : List ℕ) (all rows : List Row) → ((p : Row → Bool) → list_any p rows ≡ true → list_any p all ≡ true)
    → AllByRecursion (HasRows group all) (map (key_of group) rows)
rows_have_keys group all [] h = tt
rows_have_keys group all (row ∷ rows) h =
    let test = λ (r : Row). values_eq (key_of group r) (key_of group row) in
    let r = some_passes test all (h test (or_before (test row) (list_any test rows) (own_key group row))) in (
      record { row = r.row; others = r.others; are = r.are },
      rows_have_keys group all rows (λ p some. h p (or_behind (p row) (list_any p rows) some)),
    )

added_at : (P : List Value → Type 0) (o : Ordering) (k key : List Value) (keys more : List (List Value)) → P k → P key
    → AllByRecursion P keys → AllByRecursion P more
    → AllByRecursion P (match_ordering o (key ∷ k ∷ keys) (k ∷ keys) (k ∷ more))
added_at P Less k key keys more old new h rest = (new, (old, h))
added_at P Equal k key keys more old new h rest = (old, h)
added_at P Greater k key keys more old new h rest = (old, rest)

key_added : (P : List Value → Type 0) (keys : List (List Value)) (key : List Value) → AllByRecursion P keys → P key
    → AllByRecursion P (with_key keys key)
key_added P [] key h new = (new, tt)
key_added P (k ∷ keys) key h new =
    added_at P (values_cmp key k) k key keys (with_key keys key) h.0 new h.1 (key_added P keys key h.1 new)

keys_added : (P : List Value → Type 0) (keys more : List (List Value)) → AllByRecursion P keys → AllByRecursion P more
    → AllByRecursion P (fold with_key keys more)
keys_added P keys [] h new = h
keys_added P keys (key ∷ more) h new = keys_added P (with_key keys key) more (key_added P keys key h new.0) new.1

-- ---- tables

-- The fields of a line are of these variants.
abbrev HasVariants : (ℕ → ℕ) → List Field → Type 0
HasVariants variants line = (k : ℕ) → variant_of (field_at line k) ≡ variants k

key_line : (kind : ℕ → ℕ) (group : List ℕ) (items : List BoundItem) (rows : List Row) (key : List Value)
    → AreAlike kind rows → HasRows group rows key
    → HasVariants (items_variant kind items) (map (item_of (rows_of_key group rows key)) items)
key_line kind group items rows key alike some k =
    let own : AreAlike kind (some.row ∷ some.others) =
    coe 0 1 (i. AreAlike kind (some.are i)) (filter_alike kind (λ row. values_eq (key_of group row) key) rows alike)
    in
    ap (λ (found : List Row). variant_of (field_at (map (item_of found) items) k)) some.are
    ∙ line_is kind some.row some.others items k own

key_lines : (kind : ℕ → ℕ) (group : List ℕ) (items : List BoundItem) (rows : List Row) (keys : List (List Value))
    → AreAlike kind rows → AllByRecursion (HasRows group rows) keys
    → AllByRecursion (HasVariants (items_variant kind items))
    (map (λ key. map (item_of (rows_of_key group rows key)) items) keys)
key_lines kind group items rows [] alike h = tt
key_lines kind group items rows (key ∷ keys) alike h =
    (key_line kind group items rows key alike h.0, key_lines kind group items rows keys alike h.1)

one_of : {X : Type 0} (P : X → Type 0) (xs : List X) (k : ℕ) (d : X) → AllByRecursion P xs → k < length xs
    → P (get_or xs k d)
one_of P [] k d h l = absurd (omega arith)
one_of P (x ∷ xs) zero d h l = h.0
one_of P (x ∷ xs) (suc k) d h l = one_of P xs k d h.1 (omega arith)

contained : {X : Type 0} (P : X → Type 0) (xs : List X) (x : X) → AllByRecursion P xs → Contains xs x → P x
contained {X} P xs x h c = subst (λ (y : X). P y) c.2 (one_of P xs c.0 x h c.1)

-- In a table over rows of one kind any two lines have, at each place, fields of one variant.
pub alike_fields : (kind : ℕ → ℕ) (group : List ℕ) (items : List BoundItem) (rows : List Row) (a b : List Field) (k : ℕ)
    → AreAlike kind rows → Contains (table_of group items rows) a → Contains (table_of group items rows) b
    → variant_of (field_at a k) ≡ variant_of (field_at b k)
alike_fields kind [] items rows a b k alike one two =
    let line = map (item_of (rows_of_key [] rows [])) items in
    let first : a ≡ line = contained (λ x. x ≡ line) (line ∷ []) a (refl, tt) one in
    let second : b ≡ line = contained (λ x. x ≡ line) (line ∷ []) b (refl, tt) two in
    ap (λ (x : List Field). variant_of (field_at x k)) (first ∙ sym second)
alike_fields kind (place ∷ group) items rows a b k alike one two =
    let keys = keys_of (place ∷ group) rows in
    let all : AllByRecursion (HasRows (place ∷ group) rows) keys =
    keys_added (HasRows (place ∷ group) rows) [] (map (key_of (place ∷ group)) rows) tt
    (rows_have_keys (place ∷ group) rows rows (λ p h. h))
    in
    let lines = key_lines kind (place ∷ group) items rows keys alike all in
    let table = table_of (place ∷ group) items rows in
    contained (HasVariants (items_variant kind items)) table a lines one k
    ∙ sym (contained (HasVariants (items_variant kind items)) table b lines two k)
