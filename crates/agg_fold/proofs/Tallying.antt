-- Tallies: their bounds, and how they change as rows come and go.
use Rattle.std.proofs.Common.{◌≡◌, ℕ, ◌*◌, ◌^◌, ◌<◌, ℤ, pos, ◌+ℤ◌, ◌-ℤ◌, ◌≤ℤ◌, List, [], ◌∷◌, ◌++◌, length, map, fold, All, FitsSigned, refl, sym, ap, ◌∙◌, arith}
use Rattle.std.specs.Int.{int_min, int_max, w64}
use Rattle.std.proofs.lemmas.Int.{ints, clamps}
use Rattle.std.proofs.lemmas.List.{map-append, length-map}
use Rattle.std.proofs.lemmas.List.Elements.{All-head, All-tail, All-map, All-weaker}
use Rattle.std.proofs.lemmas.List.Sums.{fold-append}
use Rattle.cube_values.specs.declared.query.BoundItem.{BoundItem}
use Rattle.cube_values.specs.declared.query.BoundItem.TheVariants.{Group, Count, Sum, Min, Max, Avg}
use Rattle.cube_values.specs.Answer.{total}
use Rattle.agg_fold.specs.declared.tally.Tally.TheVariants.{Total, Least, Greatest}
use Rattle.agg_fold.specs.declared.tally.Tally.{Tally}
use Rattle.agg_fold.proofs.Lists.{zip_map, zip_maps}
use Rattle.agg_fold.specs.Tallies.{metric_number, numbers_of, lowest, highest, least, greatest, tally_of, AreFew, IsSmall, IsAdditive, tally_with_row, tally_sum, tally_difference, tallies_with_row, tally_sums, tally_differences, chunk_of, with_chunk, changed_chunk}

-- ---- sums are small

bounds : (m : ℕ) (rows : List (List ℤ)) (a : ℤ) → All (λ metrics. FitsSigned w64 (metric_number m metrics)) rows
    → ((a -ℤ pos (2 ^ 63 * length rows)) ≤ℤ fold ◌+ℤ◌ a (numbers_of m rows)) × (fold ◌+ℤ◌ a (numbers_of m rows) ≤ℤ (a +ℤ pos (2 ^ 63 * length rows)))
bounds m [] a h = (omega (arith, ints), omega (arith, ints))
bounds m (row ∷ rows) a h =
    let here : FitsSigned w64 (metric_number m row) = All-head (λ metrics. FitsSigned w64 (metric_number m metrics)) row rows h in
    let rest = bounds m rows (a +ℤ metric_number m row) (All-tail (λ metrics. FitsSigned w64 (metric_number m metrics)) row rows h) in
    (omega (arith, ints), omega (arith, ints))

small_total : (m : ℕ) (rows : List (List ℤ)) → All (λ metrics. FitsSigned w64 (metric_number m metrics)) rows → length rows < 2 ^ 63 → IsSmall (Total (total (numbers_of m rows)))
small_total m rows fit few = let b = bounds m rows (pos 0) fit in (omega (arith, ints), omega (arith, ints))

pub small_tally : (rows : List (List ℤ)) (item : BoundItem) → AreFew item rows → IsSmall (tally_of rows item)
small_tally rows (Group dim) h = tt
small_tally rows Count h = tt
small_tally rows (Sum m) h = small_total m rows h.fit h.few
small_tally rows (Min m) h = tt
small_tally rows (Max m) h = tt
small_tally rows (Avg m) h = small_total m rows h.fit h.few

-- ---- from rows to more rows

pub total_from : (a : ℤ) (ns : List ℤ) → fold ◌+ℤ◌ a ns ≡ a +ℤ total ns
total_from a [] = omega (arith, ints)
total_from a (n ∷ ns) = total_from (a +ℤ n) ns ∙ omega (arith, ints, total_from (pos 0 +ℤ n) ns)

least_from : (a : ℤ) (ns : List ℤ) → a ≤ℤ highest → fold int_min a ns ≡ int_min a (least ns)
least_from a [] h = omega (arith, ints, clamps)
least_from a (n ∷ ns) h =
    let l : fold int_min (int_min a n) ns ≡ int_min (int_min a n) (least ns) = least_from (int_min a n) ns (omega (arith, ints, clamps)) in
    let r : fold int_min (int_min highest n) ns ≡ int_min (int_min highest n) (least ns) = least_from (int_min highest n) ns (omega (arith, ints, clamps)) in
    l ∙ omega (arith, ints, clamps) ∙ ap (int_min a) (sym r)

least_high : (a : ℤ) (ns : List ℤ) → a ≤ℤ highest → fold int_min a ns ≤ℤ highest
least_high a [] h = h
least_high a (n ∷ ns) h = least_high (int_min a n) ns (omega (arith, ints, clamps))

greatest_from : (a : ℤ) (ns : List ℤ) → lowest ≤ℤ a → fold int_max a ns ≡ int_max a (greatest ns)
greatest_from a [] h = omega (arith, ints, clamps)
greatest_from a (n ∷ ns) h =
    let l : fold int_max (int_max a n) ns ≡ int_max (int_max a n) (greatest ns) = greatest_from (int_max a n) ns (omega (arith, ints, clamps)) in
    let r : fold int_max (int_max lowest n) ns ≡ int_max (int_max lowest n) (greatest ns) = greatest_from (int_max lowest n) ns (omega (arith, ints, clamps)) in
    l ∙ omega (arith, ints, clamps) ∙ ap (int_max a) (sym r)

greatest_low : (a : ℤ) (ns : List ℤ) → lowest ≤ℤ a → lowest ≤ℤ fold int_max a ns
greatest_low a [] h = h
greatest_low a (n ∷ ns) h = greatest_low (int_max a n) ns (omega (arith, ints, clamps))

-- the numbers of rows and more rows, folded
folds : (f : ℤ → ℤ → ℤ) (a : ℤ) (m : ℕ) (rows more : List (List ℤ)) → fold f a (numbers_of m (rows ++ more)) ≡ fold f (fold f a (numbers_of m rows)) (numbers_of m more)
folds f a m rows more = ap (fold f a) (map-append (metric_number m) rows more) ∙ fold-append f a (numbers_of m rows) (numbers_of m more)

pub tally_joined : (rows more : List (List ℤ)) (item : BoundItem) → tally_of (rows ++ more) item ≡ tally_sum (tally_of rows item) (tally_of more item)
tally_joined rows more (Group dim) = refl
tally_joined rows more Count = refl
tally_joined rows more (Sum m) = ap Total (folds ◌+ℤ◌ (pos 0) m rows more ∙ total_from (total (numbers_of m rows)) (numbers_of m more))
tally_joined rows more (Min m) = ap Least (folds int_min highest m rows more ∙ least_from (least (numbers_of m rows)) (numbers_of m more) (least_high highest (numbers_of m rows) (omega (arith, ints))))
tally_joined rows more (Max m) = ap Greatest (folds int_max lowest m rows more ∙ greatest_from (greatest (numbers_of m rows)) (numbers_of m more) (greatest_low lowest (numbers_of m rows) (omega (arith, ints))))
tally_joined rows more (Avg m) = ap Total (folds ◌+ℤ◌ (pos 0) m rows more ∙ total_from (total (numbers_of m rows)) (numbers_of m more))

pub tally_more : (rows : List (List ℤ)) (metrics : List ℤ) (item : BoundItem) → tally_of (rows ++ metrics ∷ []) item ≡ tally_with_row metrics item (tally_of rows item)
tally_more rows metrics (Group dim) = refl
tally_more rows metrics Count = refl
tally_more rows metrics (Sum m) = ap Total (folds ◌+ℤ◌ (pos 0) m rows (metrics ∷ []))
tally_more rows metrics (Min m) = ap Least (folds int_min highest m rows (metrics ∷ []))
tally_more rows metrics (Max m) = ap Greatest (folds int_max lowest m rows (metrics ∷ []))
tally_more rows metrics (Avg m) = ap Total (folds ◌+ℤ◌ (pos 0) m rows (metrics ∷ []))

less_total : (m : ℕ) (rest less : List (List ℤ)) → total (numbers_of m rest) ≡ total (numbers_of m (rest ++ less)) -ℤ total (numbers_of m less)
less_total m rest less =
    omega (arith, ints, folds ◌+ℤ◌ (pos 0) m rest less, total_from (total (numbers_of m rest)) (numbers_of m less))

pub tally_less : (rest less : List (List ℤ)) (item : BoundItem) → IsAdditive item → tally_of rest item ≡ tally_difference (tally_of (rest ++ less) item) (tally_of less item)
tally_less rest less (Group dim) h = refl
tally_less rest less Count h = refl
tally_less rest less (Sum m) h = ap Total (less_total m rest less)
tally_less rest less (Min m) h = absurd h
tally_less rest less (Max m) h = absurd h
tally_less rest less (Avg m) h = ap Total (less_total m rest less)

-- ---- item by item

pub small_tallies : (rows : List (List ℤ)) (items : List BoundItem) → All (λ item. AreFew item rows) items → All IsSmall (map (tally_of rows) items)
small_tallies rows items few = All-map IsSmall (tally_of rows) items (All-weaker (λ item. AreFew item rows) (λ item. IsSmall (tally_of rows item)) (small_tally rows) items few)

pub tallies_more : (rows : List (List ℤ)) (metrics : List ℤ) (items : List BoundItem) → tallies_with_row metrics items (map (tally_of rows) items) ≡ map (tally_of (rows ++ metrics ∷ [])) items
tallies_more rows metrics items = zip_map (tally_with_row metrics) (tally_of rows) items ∙ (λ i. map (λ item. sym (tally_more rows metrics item) i) items)

pub tallies_joined : (rows more : List (List ℤ)) (items : List BoundItem) → tally_sums (map (tally_of rows) items) (map (tally_of more) items) ≡ map (tally_of (rows ++ more)) items
tallies_joined rows more items = zip_maps tally_sum (tally_of rows) (tally_of more) items ∙ (λ i. map (λ item. sym (tally_joined rows more item) i) items)

pub tallies_less : (rest less : List (List ℤ)) (items : List BoundItem) → All IsAdditive items → tally_differences (map (tally_of (rest ++ less)) items) (map (tally_of less) items) ≡ map (tally_of rest) items
tallies_less rest less items additive = zip_maps tally_difference (tally_of (rest ++ less)) (tally_of less) items ∙ each items additive
  where
    each : (is : List BoundItem) → All IsAdditive is → map (λ item. tally_difference (tally_of (rest ++ less) item) (tally_of less item)) is ≡ map (tally_of rest) is
    each [] h = refl
    each (item ∷ is) h = λ i. sym (tally_less rest less item (All-head IsAdditive item is h)) i ∷ each is (All-tail IsAdditive item is h) i

-- ---- the tallies of a group

module _ (items : List BoundItem) (rows : List (List ℤ)) (place : ℕ) (tallies : List Tally) (at : chunk_of place (length items) tallies ≡ map (tally_of rows) items) where
  pub chunk_more : (metrics : List ℤ) → changed_chunk place (length items) (tallies_with_row metrics items) tallies ≡ with_chunk place (length items) tallies (map (tally_of (rows ++ metrics ∷ [])) items)
  chunk_more metrics = ap (with_chunk place (length items) tallies) (ap (tallies_with_row metrics items) at ∙ tallies_more rows metrics items)

  pub chunk_joined : (more : List (List ℤ)) (others : List Tally) → others ≡ map (tally_of more) items
      → changed_chunk place (length others) (λ old. tally_sums old others) tallies ≡ with_chunk place (length items) tallies (map (tally_of (rows ++ more)) items)
  chunk_joined more others e =
      let n : length others ≡ length items = ap length e ∙ length-map items (tally_of more) in
      (λ i. changed_chunk place (n i) (λ old. tally_sums old (e i)) tallies)
      ∙ ap (with_chunk place (length items) tallies) (ap (λ (old : List Tally). tally_sums old (map (tally_of more) items)) at ∙ tallies_joined rows more items)

pub chunk_less : (items : List BoundItem) (rest less : List (List ℤ)) (place : ℕ) (tallies others : List Tally) → All IsAdditive items
    → chunk_of place (length items) tallies ≡ map (tally_of (rest ++ less)) items → others ≡ map (tally_of less) items
    → changed_chunk place (length others) (λ old. tally_differences old others) tallies ≡ with_chunk place (length items) tallies (map (tally_of rest) items)
chunk_less items rest less place tallies others additive at e =
    let n : length others ≡ length items = ap length e ∙ length-map items (tally_of less) in
    (λ i. changed_chunk place (n i) (λ old. tally_differences old (e i)) tallies)
    ∙ ap (with_chunk place (length items) tallies) (ap (λ (old : List Tally). tally_differences old (map (tally_of less) items)) at ∙ tallies_less rest less items additive)
