-- The answer to a query over rows.
-- Source: Cubrick (VLDB 2016), aggregates grouped by dimensions; sorted groups and four decimals are this
-- project's own.
use Rattle.std.specs.Prelude.{ℕ, ◌*◌, ◌/◌, ◌%◌, not, ◌&&◌, ◌==◌, List, [], ◌∷◌, length, map, filter, fold, pos, ◌+ℤ◌, ℤ, slice_get, unwrap_or, unsigned_abs}
use Rattle.std.specs.Int.{int_min, int_max, is_negative}
use Rattle.std.specs.Ordering.{match_ordering}
use Rattle.cube_values.specs.declared.query.Query.{Query}
use Rattle.cube_values.specs.declared.query.BoundItem.{BoundItem}
use Rattle.cube_values.specs.declared.query.BoundItem.TheVariants.{Group, Count, Sum, Min, Max, Avg}
use Rattle.cube_values.specs.declared.row.Row.{Row}
use Rattle.cube_values.specs.declared.row.StoredRow.{StoredRow}
use Rattle.cube_values.specs.declared.table.Field.{Field}
use Rattle.cube_values.specs.declared.table.Field.TheVariants as field
use Rattle.cube_values.specs.declared.value.Value.{Value}
use Rattle.cube_values.specs.declared.value.Value.TheVariants as value
use Rattle.cube_values.specs.Regions.{region_has}
use Rattle.cube_values.specs.Values.{values_eq, values_cmp}

-- The value of a row at a place.
abbrev pub value_at : Row → ℕ → Value
value_at row place = unwrap_or (slice_get row.dims place) (value.Int (pos 0))

-- The key of a row is its values at the places of the group.
abbrev pub key_of : List ℕ → Row → List Value
key_of group row = map (value_at row) group

-- One more key among keys that stand once each, least first.
abbrev pub with_key : List (List Value) → List Value → List (List Value)
with_key [] key = key ∷ []
with_key (k ∷ keys) key = match_ordering (values_cmp key k) (key ∷ k ∷ keys) (k ∷ keys) (k ∷ with_key keys key)

-- The keys of rows, once each, least first. Without a group there is the empty key, also over no rows.
abbrev pub keys_of : List ℕ → List Row → List (List Value)
keys_of [] rows = [] ∷ []
keys_of (place ∷ group) rows = fold with_key [] (map (key_of (place ∷ group)) rows)

-- The value of a row as a field.
abbrev pub field_of : Value → Field
field_of (value.Text text) = field.Text text
field_of (value.Int n) = field.Whole n

-- A metric of rows.
abbrev pub metric_of : ℕ → List Row → List ℤ
metric_of place rows = map (λ row. unwrap_or (slice_get row.metrics place) (pos 0)) rows

-- The sum of numbers.
abbrev pub total : List ℤ → ℤ
total numbers = fold ◌+ℤ◌ (pos 0) numbers

-- A sum divided by a count, cut toward zero to four decimals.
abbrev pub average : ℤ → ℕ → Field
average sum count =
    let cut = unsigned_abs sum * 10000 / count in
    field.Decimal (is_negative sum && not (cut == 0)) (cut / 10000) (cut % 10000)

-- Over no numbers the sum, the least, the greatest and the average are Null.
abbrev pub sum_of : List ℤ → Field
sum_of [] = field.Null
sum_of (n ∷ numbers) = field.Whole (total (n ∷ numbers))

abbrev pub least_of : List ℤ → Field
least_of [] = field.Null
least_of (n ∷ numbers) = field.Whole (fold int_min n numbers)

abbrev pub greatest_of : List ℤ → Field
greatest_of [] = field.Null
greatest_of (n ∷ numbers) = field.Whole (fold int_max n numbers)

abbrev pub average_of : List ℤ → Field
average_of [] = field.Null
average_of (n ∷ numbers) = average (total (n ∷ numbers)) (length (n ∷ numbers))

-- The rows of a group have one value at a place of the group: that of the first.
abbrev pub shared_value : ℕ → List Row → Field
shared_value place [] = field.Null
shared_value place (row ∷ rows) = field_of (value_at row place)

-- What an item is of the rows of a group.
abbrev pub item_of : List Row → BoundItem → Field
item_of rows (Group place) = shared_value place rows
item_of rows Count = field.Whole (pos (length rows))
item_of rows (Sum metric) = sum_of (metric_of metric rows)
item_of rows (Min metric) = least_of (metric_of metric rows)
item_of rows (Max metric) = greatest_of (metric_of metric rows)
item_of rows (Avg metric) = average_of (metric_of metric rows)

-- The rows with this key.
abbrev pub rows_of_key : List ℕ → List Row → List Value → List Row
rows_of_key group rows key = filter (λ row. values_eq (key_of group row) key) rows

-- Rows parted by their keys, with a line of the items for each key.
abbrev pub table_of : List ℕ → List BoundItem → List Row → List (List Field)
table_of group items rows = map (λ key. map (item_of (rows_of_key group rows key)) items) (keys_of group rows)

-- The answer is the table of the rows that the query's region has.
abbrev pub answer : Query → List StoredRow → List (List Field)
answer query rows =
    table_of query.group query.items (map (λ stored. stored.row) (filter (region_has query.region) rows))
