-- Rows of an INSERT one after the other.
use Rattle.std.proofs.Common.{◌≡◌, ℕ, ◌+◌, ◌<◌, ◌≤◌, zero, suc, Bool, true, false, cond, List, [], ◌∷◌, ◌++◌, length, map, take, drop, get_or, All, Contains, Option, Some, None, slice_get, refl, sym, ap, ◌∙◌, subst, arith}
use Rattle.std.specs.Prelude.{ℤ, ◌==◌}
use Rattle.std.specs.Option.{option_map, option_or}
use Rattle.std.proofs.lemmas.Bool.{eqb-true}
use Rattle.std.proofs.lemmas.List.{length-append, length-map, map_push, drop_more, take_more, take_all, take-append-drop, length_push}
use Rattle.std.proofs.lemmas.List.Elements.{All-nil, All-push, All-weaker, Contains-get_or}
use Rattle.std.proofs.lemmas.Option.{none-some}
use Rattle.cube_values.specs.Batches.{Batch}
use Rattle.cube_values.specs.declared.row.CodedRow.{CodedRow}
use Rattle.cube_values.specs.declared.value.Value.{Value}
use Rattle.cube_values.specs.declared.value.Value.TheVariants.{Text}
use Rattle.cube_language.specs.Columns.{columns_of}
use Rattle.cube_language.specs.Cubes.{sizes_of}
use Rattle.cube_language.specs.RowFaults.{bad_row_from, column_fault, dim_reason, row_fault}
use Rattle.cube_language.specs.declared.bad_row.BadRow.{BadRow}
use Rattle.cube_language.specs.declared.bad_row.BadRow.TheVariants as bad
use Rattle.cube_language.specs.declared.decl.Column.{Column}
use Rattle.cube_language.specs.declared.decl.Column.TheVariants.{Dim, Metric}
use Rattle.cube_language.specs.declared.decl.Decl.{Decl}
use Rattle.cube_language.specs.declared.decl.DimDecl.{DimDecl}
use Rattle.cube_run.specs.LoadedRows.{first_without_place, metric_value, row_of_values, text_without_place}
use Rattle.agg_fold.specs.Coded.{coded_row, row_for}
use Rattle.brick_address.specs.Addresses.{AreCoords}
use Rattle.condition_spans.specs.Codes.{lists_at}
use Rattle.row_encoding.specs.FinalCodes.{CarriesOn, Grow, HaveNumbers, InTheEnd}
use Rattle.row_encoding.specs.CodedValues.{AreCodedAs, FindsNoPlace, FitDims, HaveNames, HaveText, HasTextAt, StandFor}
use Rattle.row_encoding.specs.CodedInserts.{HasCoords, HasNumbers, HaveTextIn, RowsStandFor}
use Rattle.row_encoding.proofs.Growing.{grow_none, grow_more, grow_wider}

-- ---- rows that fit

pub none_of_both : {X : Type 0} (a b : Option X) → option_or a b ≡ None → (a ≡ None) × (b ≡ None)
none_of_both None b h = (refl, h)
none_of_both (Some x) b h = absurd (none-some x (sym h))

pub none_mapped : {X Y : Type 0} (f : X → Y) (o : Option X) → option_map f o ≡ None → o ≡ None
none_mapped f None h = refl
none_mapped f (Some x) h = absurd (none-some (f x) (sym h))

none_if : {X : Type 0} (t : Bool) (a : Option X) (x : X) → cond t a (Some x) ≡ None → (t ≡ true) × (a ≡ None)
none_if true a x h = (refl, h)
none_if false a x h = absurd (none-some x (sym h))

columns_fit : (dims : List DimDecl) (others : List Column) (values : List Value) → length dims ≤ length values
    → column_fault (map Dim dims ++ others) values ≡ None → FitDims dims (take (length dims) values)
columns_fit [] others values long h = tt
columns_fit (dim ∷ dims) others [] long h = absurd (omega (arith, long))
columns_fit (dim ∷ dims) others (v ∷ values) long h =
    let both = none_of_both (option_map (bad.Column dim.name) (dim_reason dim v)) (column_fault (map Dim dims ++ others) values) h in
    (none_mapped (bad.Column dim.name) (dim_reason dim v) both.0, columns_fit dims others values (omega (arith, long)) both.1)

pub fit_long : (d : Decl) (values : List Value) → row_fault d values ≡ None → length values ≡ length d.dims + length d.metrics
fit_long d values h =
    let same = eqb-true (length values) (length (columns_of d)) (none_if (length values == length (columns_of d)) (column_fault (columns_of d) values) (bad.WrongCount (length values)) h).0 in
    let a = length-append (map Dim d.dims) (map Metric d.metrics) in
    let m = length-map d.dims Dim in
    let n = length-map d.metrics Metric in
    omega (arith, same, a, m, n)

pub fit_dims : (d : Decl) (values : List Value) → row_fault d values ≡ None → FitDims d.dims (take (length d.dims) values)
fit_dims d values h =
    columns_fit d.dims (map Metric d.metrics) values (let l = fit_long d values h in omega (arith, l))
    (none_if (length values == length (columns_of d)) (column_fault (columns_of d) values) (bad.WrongCount (length values)) h).1

pub row_fits : (number : ℕ) (d : Decl) (rows : List (List Value)) (i : ℕ) → bad_row_from number d rows ≡ None → i < length rows → row_fault d (get_or rows i []) ≡ None
row_fits number d [] i h below = absurd (omega (arith, below))
row_fits number d (values ∷ rows) zero h below =
    none_mapped (λ (why : BadRow). (number, why)) (row_fault d values)
    (none_of_both (option_map (λ (why : BadRow). (number, why)) (row_fault d values)) (bad_row_from (number + 1) d rows) h).0
row_fits number d (values ∷ rows) (suc i) h below =
    row_fits (number + 1) d rows i
    (none_of_both (option_map (λ (why : BadRow). (number, why)) (row_fault d values)) (bad_row_from (number + 1) d rows) h).1 (omega (arith, below))

pub front_text : {X : Type 0} (n : ℕ) (xs : List X) (k : ℕ) (x : X) → slice_get (take n xs) k ≡ Some x → slice_get xs k ≡ Some x
front_text zero xs k x h = absurd (none-some x h)
front_text (suc n) [] k x h = h
front_text (suc n) (y ∷ xs) zero x h = h
front_text (suc n) (y ∷ xs) (suc k) x h = front_text n xs k x h

pub front_grow : {S : Type 0} {may_end : S → List (List (List (List ℕ))) → Type 0} {suits : S → ℕ → Decl → Type 0} {has_name : S → ℕ → ℕ → List ℕ → Type 0} {keeps : S → S → Type 0}
    {place : ℕ} {d : Decl} {old new : S} (n : ℕ) (values front : List Value) → front ≡ take n values
    → Grow may_end suits has_name keeps place d (HaveText front) old new → Grow may_end suits has_name keeps place d (HaveText values) old new
front_grow n values front is grow = grow_wider grow (λ k text h. front_text n values k (Text text) (subst (λ (vs : List Value). HaveText vs k text) is h))

pub front_has_text : (n : ℕ) (values front : List Value) (k : ℕ) → front ≡ take n values → HasTextAt front k → HasTextAt values k
front_has_text n values front k is (text, h) = (text, front_text n values k (Text text) (subst (λ (vs : List Value). HaveText vs k text) is h))

-- ---- one row more

or_or : {X : Type 0} (a b c : Option X) → option_or a (option_or b c) ≡ option_or (option_or a b) c
or_or None b c = refl
or_or (Some x) b c = refl

first_append : (d : Decl) (lists : List (List (List ℕ))) (xs ys : List (List Value))
    → first_without_place d lists (xs ++ ys) ≡ option_or (first_without_place d lists xs) (first_without_place d lists ys)
first_append d lists [] ys = refl
first_append d lists (values ∷ xs) ys =
    let first = option_map (λ t. t.text) (text_without_place d.dims lists (take (length d.dims) values)) in
    ap (option_or first) (first_append d lists xs ys) ∙ or_or first (first_without_place d lists xs) (first_without_place d lists ys)

pub one_more_row : (d : Decl) (lists : List (List (List ℕ))) (given : List (List Value)) (coded : List CodedRow) (n : ℕ) (values : List Value) (coords : List ℕ) (metrics : List ℤ)
    → n < length given → values ≡ get_or given n [] → RowsStandFor d lists (take n given) coded → StandFor d lists (take (length d.dims) values) coords
    → metrics ≡ map metric_value (drop (length d.dims) values) → RowsStandFor d lists (take (n + 1) given) (coded ++ coded_row coords metrics ∷ [])
one_more_row d lists given coded n values coords metrics there at front row numbers =
    let more : take (n + 1) given ≡ take n given ++ values ∷ [] = take_more given n [] there ∙ ap (λ (v : List Value). take n given ++ v ∷ []) (sym at) in
    record {
      rows = λ none.
          map_push (row_for lists) coded (coded_row coords metrics)
          ∙ (λ i. front.rows none i ++ (record { dims = row.values none i; metrics = numbers i }) ∷ [])
          ∙ sym (map_push (row_of_values d) (take n given) values) ∙ ap (map (row_of_values d)) (sym more);
      names = All-push (λ (r : CodedRow). HaveNames d lists r.coords) coded (coded_row coords metrics) front.names row.names;
      places = ap (first_without_place d lists) more ∙ first_append d lists (take n given) (values ∷ [])
          ∙ (λ i. option_or (front.places i) (option_or (option_map (λ t. t.text) (row.places i)) None));
    }

pub row_lacks : (d : Decl) (lists : List (List (List ℕ))) (given : List (List Value)) (coded : List CodedRow) (n dim : ℕ) (values : List Value) (text : List ℕ)
    → n < length given → values ≡ get_or given n [] → RowsStandFor d lists (take n given) coded → FindsNoPlace d lists (take (length d.dims) values) dim → HaveText values dim text
    → first_without_place d lists given ≡ Some text
row_lacks d lists given coded n dim values text there at front lacks is =
    let its : Some (Text lacks.text) ≡ Some (Text text) = sym (front_text (length d.dims) values dim (Text lacks.text) lacks.here) ∙ is in
    let same : lacks.text ≡ text = cc in
    let parts : given ≡ take n given ++ values ∷ drop (n + 1) given = sym (take-append-drop n given) ∙ ap (λ (r : List (List Value)). take n given ++ r) (drop_more given n [] there ∙ ap (λ (v : List Value). v ∷ drop (n + 1) given) (sym at)) in
    ap (first_without_place d lists) parts ∙ first_append d lists (take n given) (values ∷ drop (n + 1) given)
    ∙ (λ i. option_or (front.places i) (option_or (option_map (λ t. t.text) (lacks.first i)) (first_without_place d lists (drop (n + 1) given))))
    ∙ ap Some same

-- ---- numbers that were given

pub still_numbers : {S : Type 0} (keeps : S → S → Type 0) (has_given : S → ℕ → ℕ → ℕ → Type 0) → CarriesOn keeps has_given → (place : ℕ) (d : Decl) (old new : S)
    (rows : List CodedRow) → keeps old new → All (HasNumbers (has_given old place) d) rows → All (HasNumbers (has_given new place) d) rows
still_numbers keeps has_given on place d old new rows keep h =
    All-weaker (HasNumbers (has_given old place) d) (HasNumbers (has_given new place) d)
    (λ row numbers dim number t is. on.given old new place dim number keep (numbers dim number t is)) rows h

-- ---- between two rows

pub record IsCodedInsert {S : Type 0} (may_end : S → List (List (List (List ℕ))) → Type 0) (suits : S → ℕ → Decl → Type 0) (has_name : S → ℕ → ℕ → List ℕ → Type 0)
    (keeps : S → S → Type 0) (has_given : S → ℕ → ℕ → ℕ → Type 0)
    (place : ℕ) (d : Decl) (given : List (List Value)) (old now : S) (start batch : Batch) (n : ℕ) : Type 0 where
  pub only : batch ≡ record start { rows = batch.rows }
  pub count : length batch.rows ≡ n
  pub final : InTheEnd (may_end now) place (λ lists. RowsStandFor d lists (take n given) batch.rows)
  pub inside : All (HasCoords d) batch.rows
  pub numbers : All (HasNumbers (has_given now place) d) batch.rows
  pub grow : Grow may_end suits has_name keeps place d (HaveTextIn given) old now

module _ {S : Type 0} (may_end : S → List (List (List (List ℕ))) → Type 0) (suits : S → ℕ → Decl → Type 0) (has_name : S → ℕ → ℕ → List ℕ → Type 0)
    (keeps : S → S → Type 0) (has_given : S → ℕ → ℕ → ℕ → Type 0) (on : CarriesOn keeps has_given)
    (place : ℕ) (d : Decl) (given : List (List Value)) (start : Batch) where
  pub no_row_coded : (now : S) (batch : Batch) → suits now place d → batch ≡ record start { rows = [] }
      → IsCodedInsert may_end suits has_name keeps has_given place d given now now start batch 0
  no_row_coded now batch suit is =
      subst (λ (b : Batch). IsCodedInsert may_end suits has_name keeps has_given place d given now now start b 0) (sym is)
      (record {
        only = refl;
        count = refl;
        final = λ names h. record { rows = λ none. refl; names = All-nil (λ (row : CodedRow). HaveNames d (lists_at names place) row.coords); places = refl };
        inside = All-nil (HasCoords d);
        numbers = All-nil (HasNumbers (has_given now place) d);
        grow = grow_none on suit;
      })

  its_text : (n : ℕ) (values : List Value) → n < length given → values ≡ get_or given n [] → (k : ℕ) (text : List ℕ) → HaveText values k text → HaveTextIn given k text
  its_text n values there at k text h = record { row = values; one = subst (Contains given) (sym at) (Contains-get_or given n [] there); here = h }

  pub one_row_coded : (old mid new : S) (before after : Batch) (n : ℕ) (values : List Value) (coords : List ℕ) (metrics : List ℤ)
      → IsCodedInsert may_end suits has_name keeps has_given place d given old mid start before n → n < length given → values ≡ get_or given n []
      → InTheEnd (may_end new) place (λ lists. AreCodedAs d lists (take (length d.dims) values) coords None)
      → metrics ≡ map metric_value (drop (length d.dims) values) → after ≡ record before { rows = before.rows ++ coded_row coords metrics ∷ [] }
      → AreCoords (sizes_of d.dims) coords → HaveNumbers (has_given new place) d.dims coords → Grow may_end suits has_name keeps place d (HaveText values) mid new
      → IsCodedInsert may_end suits has_name keeps has_given place d given old new start after (n + 1)
  one_row_coded old mid new before after n values coords metrics front there at final numbers is inside told grow =
      subst (λ (b : Batch). IsCodedInsert may_end suits has_name keeps has_given place d given old new start b (n + 1)) (sym is)
      (record {
        only = λ i. record (front.only i) { rows = before.rows ++ coded_row coords metrics ∷ [] };
        count = let l = length_push before.rows (coded_row coords metrics) in omega (arith, l, front.count);
        final = λ names h. one_more_row d (lists_at names place) given before.rows n values coords metrics there at (front.final names (grow.later names h)) (final names h) numbers;
        inside = All-push (HasCoords d) before.rows (coded_row coords metrics) front.inside inside;
        numbers = All-push (HasNumbers (has_given new place) d) before.rows (coded_row coords metrics)
            (still_numbers keeps has_given on place d mid new before.rows grow.keeps_else front.numbers) told;
        grow = grow_more on front.grow grow (its_text n values there at);
      })

  pub grown_by_rows : (old mid new : S) (batch : Batch) (n : ℕ) (values : List Value) → IsCodedInsert may_end suits has_name keeps has_given place d given old mid start batch n
      → n < length given → values ≡ get_or given n [] → Grow may_end suits has_name keeps place d (HaveText values) mid new
      → Grow may_end suits has_name keeps place d (HaveTextIn given) old new
  grown_by_rows old mid new batch n values front there at grow = grow_more on front.grow grow (its_text n values there at)

  pub one_row_lacks : (old mid new : S) (batch : Batch) (n dim : ℕ) (values : List Value) (coords : List ℕ) (text : List ℕ)
      → IsCodedInsert may_end suits has_name keeps has_given place d given old mid start batch n → n < length given → values ≡ get_or given n []
      → InTheEnd (may_end new) place (λ lists. AreCodedAs d lists (take (length d.dims) values) coords (Some dim)) → HaveText values dim text
      → Grow may_end suits has_name keeps place d (HaveText values) mid new
      → InTheEnd (may_end new) place (λ lists. first_without_place d lists given ≡ Some text)
  one_row_lacks old mid new batch n dim values coords text front there at final is grow names h =
      row_lacks d (lists_at names place) given batch.rows n dim values text there at (front.final names (grow.later names h)) (final names h) is

  pub all_rows_coded : (old now : S) (batch : Batch) (n : ℕ) → IsCodedInsert may_end suits has_name keeps has_given place d given old now start batch n → length given ≤ n
      → InTheEnd (may_end now) place (λ lists. RowsStandFor d lists given batch.rows)
  all_rows_coded old now batch n front all names h =
      subst (λ (rows : List (List Value)). RowsStandFor d (lists_at names place) rows batch.rows) (take_all n given all) (front.final names h)
