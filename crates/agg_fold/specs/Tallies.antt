-- What a group has of the metrics of its rows for an item of a query. A row stands here by the list of its metrics.
-- Source: Cubrick (VLDB 2016), merging of partial results.
use Rattle.std.specs.Prelude.{◌≡◌, ℕ, ◌^◌, ◌-◌, ◌+◌, ◌*◌, ◌<◌, List, [], ◌∷◌, ◌++◌, length, map, take, drop, fold, pos, negsuc, ℤ, ◌+ℤ◌, ◌-ℤ◌, ◌<ℤ◌, neg_ℤ, Option, None, Some, All, slice_get, unwrap_or, FitsSigned}
use Rattle.std.specs.List.{zip}
use Rattle.std.specs.Option.{option_map_or}
use Rattle.std.specs.Int.{int_min, int_max, w64}
use Rattle.cube_values.specs.declared.query.BoundItem.{BoundItem}
use Rattle.cube_values.specs.declared.query.BoundItem.TheVariants.{Group, Count, Sum, Min, Max, Avg}
use Rattle.cube_values.specs.Answer.{total}
use Rattle.agg_fold.specs.declared.tally.Tally.{Tally}
use Rattle.agg_fold.specs.declared.tally.Tally.TheVariants.{Unused, Total, Least, Greatest}

-- A metric of a row.
abbrev pub metric_number : ℕ → List ℤ → ℤ
metric_number metric metrics = unwrap_or (slice_get metrics metric) (pos 0)

-- A metric of rows.
abbrev pub numbers_of : ℕ → List (List ℤ) → List ℤ
numbers_of metric rows = map (metric_number metric) rows

-- The least number that a metric can be, and the greatest.
abbrev pub lowest : ℤ
lowest = negsuc (2 ^ 63 - 1)

abbrev pub highest : ℤ
highest = pos (2 ^ 63 - 1)

-- The least of numbers, and the greatest.
abbrev pub least : List ℤ → ℤ
least numbers = fold int_min highest numbers

abbrev pub greatest : List ℤ → ℤ
greatest numbers = fold int_max lowest numbers

-- The tally of rows for an item.
abbrev pub tally_of : List (List ℤ) → BoundItem → Tally
tally_of rows (Group dim) = Unused
tally_of rows Count = Unused
tally_of rows (Sum metric) = Total (total (numbers_of metric rows))
tally_of rows (Min metric) = Least (least (numbers_of metric rows))
tally_of rows (Max metric) = Greatest (greatest (numbers_of metric rows))
tally_of rows (Avg metric) = Total (total (numbers_of metric rows))

-- The metric that an item asks for.
abbrev pub metric_asked : BoundItem → Option ℕ
metric_asked (Group dim) = None
metric_asked Count = None
metric_asked (Sum metric) = Some metric
metric_asked (Min metric) = Some metric
metric_asked (Max metric) = Some metric
metric_asked (Avg metric) = Some metric

-- The number that an item asks of a row, 0 where it asks for none.
abbrev pub number_for : BoundItem → List ℤ → ℤ
number_for item metrics = option_map_or (λ metric. metric_number metric metrics) (metric_asked item) (pos 0)

-- The number that an item asks of a row has 64 bits.
abbrev pub Fits : List ℤ → BoundItem → Type 0
Fits metrics item = FitsSigned w64 (number_for item metrics)

-- Fewer than 2 ^ 63 rows, of which an item asks for numbers of 64 bits.
pub record AreFew (item : BoundItem) (rows : List (List ℤ)) : Type 0 where
  pub fit : All (λ metrics. FitsSigned w64 (number_for item metrics)) rows
  pub few : length rows < 2 ^ 63

-- A sum of fewer than 2 ^ 63 numbers of 64 bits lies within 2 ^ 126.
abbrev pub IsSmall : Tally → Type 0
IsSmall (Total sum) = (neg_ℤ (pos (2 ^ 126)) <ℤ sum) × (sum <ℤ pos (2 ^ 126))
IsSmall tally = Unit {0}

-- With a number more.
abbrev pub tally_with : Tally → ℤ → Tally
tally_with Unused n = Unused
tally_with (Total sum) n = Total (sum +ℤ n)
tally_with (Least l) n = Least (int_min l n)
tally_with (Greatest g) n = Greatest (int_max g n)

-- With a row more.
abbrev pub tally_with_row : List ℤ → BoundItem → Tally → Tally
tally_with_row metrics item tally =
    option_map_or (λ metric. tally_with tally (metric_number metric metrics)) (metric_asked item) tally

-- Of the numbers of both.
abbrev pub tally_sum : Tally → Tally → Tally
tally_sum (Total a) (Total b) = Total (a +ℤ b)
tally_sum (Least a) (Least b) = Least (int_min a b)
tally_sum (Greatest a) (Greatest b) = Greatest (int_max a b)
tally_sum a b = a

-- A sum without the numbers of another.
abbrev pub tally_difference : Tally → Tally → Tally
tally_difference (Total a) (Total b) = Total (a -ℤ b)
tally_difference a b = a

-- The same item by item.
abbrev pub tallies_with_row : List ℤ → List BoundItem → List Tally → List Tally
tallies_with_row metrics items tallies = map (λ p. tally_with_row metrics p.0 p.1) (zip items tallies)

abbrev pub tally_sums : List Tally → List Tally → List Tally
tally_sums tallies others = map (λ p. tally_sum p.0 p.1) (zip tallies others)

abbrev pub tally_differences : List Tally → List Tally → List Tally
tally_differences tallies others = map (λ p. tally_difference p.0 p.1) (zip tallies others)

-- An item of which the tally of some rows follows from that of more rows and of the others: it is not Min or Max.
abbrev pub IsAdditive : BoundItem → Type 0
IsAdditive (Min metric) = ⊥
IsAdditive (Max metric) = ⊥
IsAdditive item = Unit {0}

-- What is told of some rows: their count and, for each item, a sum, a least and a greatest number. Only that of
-- the three that the item asks for counts.
pub record GroupTotals : Type 0 where
  pub rows : ℕ
  pub sums : List ℤ
  pub least : List ℤ
  pub greatest : List ℤ

-- The tally of what is told for an item.
abbrev pub told_tally : BoundItem → ℤ → ℤ → ℤ → Tally
told_tally (Group dim) sum low high = Unused
told_tally Count sum low high = Unused
told_tally (Sum metric) sum low high = Total sum
told_tally (Min metric) sum low high = Least low
told_tally (Max metric) sum low high = Greatest high
told_tally (Avg metric) sum low high = Total sum

abbrev pub told_tallies : List BoundItem → List ℤ → List ℤ → List ℤ → List Tally
told_tallies (item ∷ items) (sum ∷ sums) (low ∷ least) (high ∷ greatest) =
    told_tally item sum low high ∷ told_tallies items sums least greatest
told_tallies items sums least greatest = []

-- The tallies of the group at a place, where each has so many.
abbrev pub chunk_of : ℕ → ℕ → List Tally → List Tally
chunk_of place width tallies = take width (drop (place * width) tallies)

-- The tallies, with others for the group at a place.
abbrev pub with_chunk : ℕ → ℕ → List Tally → List Tally → List Tally
with_chunk place width tallies chunk =
    take (place * width) tallies ++ (chunk ++ drop (place * width + width) tallies)

-- The tallies, with a change of those of the group at a place.
abbrev pub changed_chunk : ℕ → ℕ → (List Tally → List Tally) → List Tally → List Tally
changed_chunk place width change tallies =
    with_chunk place width tallies (change (chunk_of place width tallies))

-- The tallies, with a row more in the group at a place, with more rows in it, and without some.
abbrev pub with_row_at : ℕ → List BoundItem → List ℤ → List Tally → List Tally
with_row_at place items metrics tallies = changed_chunk place (length items) (tallies_with_row metrics items) tallies

abbrev pub sums_at : ℕ → List Tally → List Tally → List Tally
sums_at place more tallies = changed_chunk place (length more) (λ old. tally_sums old more) tallies

abbrev pub differences_at : ℕ → List Tally → List Tally → List Tally
differences_at place less tallies = changed_chunk place (length less) (λ old. tally_differences old less) tallies

-- These are the tallies of what is told.
abbrev pub AreTold : List BoundItem → List ℤ → List ℤ → List ℤ → List Tally → Type 0
AreTold items sums least greatest tallies = tallies ≡ told_tallies items sums least greatest
