-- What a condition asks of a coordinate is what it asks of the value that the coordinate stands for.
use Rattle.std.proofs.Common.{◌≡◌, ℕ, zero, suc, ◌+◌, ◌-◌, ◌<◌, Bool, true, false, cond, List, [], ◌∷◌, ◌++◌, length, map, get_or, Option, Some, None, refl, sym, ap, subst, ◌∙◌, inl, inr, arith}
use Rattle.std.specs.Prelude.{All, filter, filter_map, find, fold, pos, slice_get, ◌||◌, ◌&&◌, ◌==◌, if◌then◌else◌}
use Rattle.std.specs.List.{IsDistinct, AllByRecursion, list_any, list_all, cons_option, position_from}
use Rattle.std.specs.Option.{option_map, option_map_or}
use Rattle.std.specs.Str.{bytes_eq}
use Rattle.std.proofs.lemmas.Bool.{cases_Bool, cases_order, or_parts, eq-eqb, ne_eqb, true≢false}
use Rattle.std.proofs.lemmas.List.Elements.{All-head, All-tail}
use Rattle.std.proofs.lemmas.Option.{slice_get-map, slice_get-get_or, slice_get_within, get_or_from_slice_get, unwrap_or-slice_get}
use Rattle.cube_values.specs.Answer.{table_of}
use Rattle.cube_values.specs.Regions.{holds_of, passes, region_has}
use Rattle.cube_values.specs.Spans.{span_has}
use Rattle.cube_values.specs.Values.{value_eq}
use Rattle.cube_values.specs.declared.operation.Condition.{Condition}
use Rattle.cube_values.specs.declared.operation.Region.{Region}
use Rattle.cube_values.specs.declared.query.BoundQuery.{BoundQuery}
use Rattle.cube_values.specs.declared.row.CodedRow.{CodedRow}
use Rattle.cube_values.specs.declared.row.Row.{Row}
use Rattle.cube_values.specs.declared.row.StoredRow.{StoredRow}
use Rattle.cube_values.specs.declared.value.Value.{Value}
use Rattle.cube_values.specs.declared.value.Value.TheVariants.{Text, Int}
use Rattle.cube_language.specs.ColumnUses.{is_text, is_of_other_kind, is_against_dim, is_wrong_use, cond_use, dim_named}
use Rattle.cube_language.specs.Cubes.{sizes_of}
use Rattle.cube_language.specs.Misfits.{cond_name, cond_test}
use Rattle.cube_language.specs.ResolvedNames.{dim_place, resolved_cond, resolved_region, resolved_query}
use Rattle.cube_language.specs.StatementParts.{conds_of}
use Rattle.cube_language.specs.declared.decl.Decl.{Decl}
use Rattle.cube_language.specs.declared.decl.DimDecl.{DimDecl}
use Rattle.cube_language.specs.declared.statement.Cond.{Cond}
use Rattle.cube_language.specs.declared.statement.Cond.TheVariants.{Equal, In, Between}
use Rattle.cube_schema.proofs.Bricks.{none_found}
use Rattle.agg_fold.specs.Coded.{value_for, values_for, row_for}
use Rattle.brick_address.specs.Addresses.{AreCoords}
use Rattle.condition_spans.specs.CodedConditions.{coded_values, coded_test, coded_condition, coded_conditions, codes_behind, values_of_test}
use Rattle.condition_spans.specs.Codes.{texts_at, lists_at, code_in, codes_among, codes_in}
use Rattle.condition_spans.specs.Spans.{coord_values}
use Rattle.query_plan.specs.Ties.{stored_for, StandsForValue, StandForValues, AreDistinct, IsCodeOf, BeginWithCodes, AreCodesOf, SpansTakeRegions, QueriesTakeRegions, QueriesAnswerForValues}
use Rattle.condition_spans.proofs.Among.{same_number}
use Rattle.query_plan.proofs.Coded.{placed, not_against, coded_alike, or_nothing}
use Rattle.query_plan.proofs.Distinct.{names_same, name_is, turned}
use Rattle.query_plan.proofs.FitConditions.{kinds_fit}
use Rattle.query_plan.proofs.FirstPlaces.{found, finds_nothing, none_passes, finds_there}

-- ---- texts

apart_from : (x : List ℕ) (ys : List (List ℕ)) (j : ℕ) (d : List ℕ) → AllByRecursion (λ y. bytes_eq x y ≡ false) ys
    → j < length ys → bytes_eq x (get_or ys j d) ≡ false
apart_from x [] j d all within = absurd (omega arith)
apart_from x (y ∷ ys) zero d all within = all.0
apart_from x (y ∷ ys) (suc j) d all within = apart_from x ys j d all.1 (omega arith)

apart : (xs : List (List ℕ)) (i j : ℕ) (d : List ℕ) → IsDistinct bytes_eq xs → i < j → j < length xs
    → bytes_eq (get_or xs i d) (get_or xs j d) ≡ false
unfolding IsDistinct
apart [] i j d distinct lt within = absurd (omega arith)
apart (x ∷ xs) i zero d distinct lt within = absurd (omega arith)
apart (x ∷ xs) zero (suc j) d distinct lt within = apart_from x xs j d distinct.0 (omega arith)
apart (x ∷ xs) (suc i) (suc j) d distinct lt within = apart xs i j d distinct.1 (omega arith) (omega arith)

-- A text with a code is the one at a place exactly where the code is the place.
text_at : (texts : List (List ℕ)) (text : List ℕ) (code x : ℕ) → IsDistinct bytes_eq texts
    → slice_get texts code ≡ Some text → x < length texts → bytes_eq text (get_or texts x []) ≡ (code == x)
text_at texts text code x distinct is within =
    let there : get_or texts code [] ≡ text = get_or_from_slice_get texts code text [] is in
    let lt : code < length texts = slice_get_within texts code text is in
    elim (cases_order code x) [
      | inl same ↦ ap (bytes_eq text) (ap (λ (k : ℕ). get_or texts k []) (sym same) ∙ there) ∙ name_is text
          ∙ sym (eq-eqb code x same)
      | inr other ↦ elim other [
        | inl before ↦ ap (λ (t : List ℕ). bytes_eq t (get_or texts x [])) (sym there)
            ∙ apart texts code x [] distinct before within ∙ sym (ne_eqb code x (λ e. absurd (omega arith)))
        | inr behind ↦ ap (λ (t : List ℕ). bytes_eq t (get_or texts x [])) (sym there)
            ∙ turned (get_or texts x []) (get_or texts code []) (apart texts x code [] distinct behind lt)
            ∙ sym (ne_eqb code x (λ e. absurd (omega arith)))
      ]
    ]

not_at : (p : List ℕ → Bool) (texts : List (List ℕ)) (x : ℕ) → list_any p texts ≡ false → x < length texts
    → p (get_or texts x []) ≡ false
not_at p [] x none within = absurd (omega arith)
not_at p (t ∷ texts) zero none within = (or_parts (p t) (list_any p texts) none).0
not_at p (t ∷ texts) (suc x) none within = not_at p texts x (or_parts (p t) (list_any p texts) none).1 (omega arith)

-- A test on a text, by its code.
by_code : (texts : List (List ℕ)) (text : List ℕ) (code : Option ℕ) (x : ℕ) (others : List Value) (rest : Bool)
    → IsDistinct bytes_eq texts → IsCodeOf texts text code → x < length texts
    → list_any (λ w. value_eq w (Int (pos x))) others ≡ rest
    → list_any (λ w. value_eq w (Int (pos x))) (cons_option (option_map Int (option_map pos code)) others)
    ≡ (bytes_eq text (get_or texts x []) || rest)
by_code texts text None x others rest distinct is within same =
    same ∙ ap (λ (b : Bool). b || rest) (sym (not_at (bytes_eq text) texts x is within))
by_code texts text (Some code) x others rest distinct is within same =
    λ i. (same_number code x ∙ sym (text_at texts text code x distinct is within)) i || same i

abbrev is_number : Value → Bool
is_number (Int n) = true
is_number (Text text) = false

by_codes : (texts : List (List ℕ)) (codes : List (Option ℕ)) (values : List Value) (x : ℕ) → IsDistinct bytes_eq texts
    → BeginWithCodes texts codes values → list_any is_number values ≡ false → x < length texts
    → list_any (λ w. value_eq w (Int (pos x))) (coded_values codes values)
    ≡ list_any (λ w. value_eq w (Text (get_or texts x []))) values
by_codes texts codes [] x distinct are texts_alone within = refl
by_codes texts codes (Int n ∷ values) x distinct are texts_alone within = absurd cc
by_codes texts [] (Text text ∷ values) x distinct are texts_alone within = absurd are
by_codes texts (code ∷ codes) (Text text ∷ values) x distinct are texts_alone within =
    by_code texts text code x (coded_values codes values)
    (list_any (λ w. value_eq w (Text (get_or texts x []))) values) distinct are.0 within
    (by_codes texts codes values x distinct are.1 texts_alone within)

other_kinds : (dim : DimDecl) (values : List Value) → dim.text ≡ true → list_any (is_of_other_kind dim) values ≡ false
    → list_any is_number values ≡ false
other_kinds dim [] text fits = refl
other_kinds dim (Int n ∷ values) text fits =
    let first = (or_parts (is_of_other_kind dim (Int n)) (list_any (is_of_other_kind dim) values) fits).0 in
    absurd (true≢false ((λ i. if sym text i then true else false) ∙ first))
other_kinds dim (Text t ∷ values) text fits =
    other_kinds dim values text
    (or_parts (is_of_other_kind dim (Text t)) (list_any (is_of_other_kind dim) values) fits).1

-- ---- one condition

value_of_text : (texts : List (List ℕ)) (x : ℕ) → x < length texts → value_for texts x ≡ Text (get_or texts x [])
value_of_text [] x within = absurd (omega arith)
value_of_text (t ∷ texts) x within = ap Text (unwrap_or-slice_get (t ∷ texts) x [])

asks_of_text : (dim : DimDecl) (texts : List (List ℕ)) (c : Cond) (codes : List (Option ℕ)) (x : ℕ) → dim.text ≡ true
    → is_against_dim (cond_use c).purpose dim ≡ false → IsDistinct bytes_eq texts
    → BeginWithCodes texts codes (values_of_test (cond_test c)) → x < length texts
    → passes (coded_test codes (cond_test c)) (Int (pos x)) ≡ passes (cond_test c) (Text (get_or texts x []))
asks_of_text dim texts (Equal name wanted) codes x text fits distinct are within =
    by_codes texts codes (wanted ∷ []) x distinct are (other_kinds dim (wanted ∷ []) text fits) within
    ∙ or_nothing (value_eq wanted (Text (get_or texts x [])))
asks_of_text dim texts (In name wanted) codes x text fits distinct are within =
    by_codes texts codes wanted x distinct are (other_kinds dim wanted text fits) within
asks_of_text dim texts (Between name first last) codes x text fits distinct are within =
    absurd (true≢false ((λ i. sym text i || (is_text first || is_text last)) ∙ fits))

asks_of_number : (dim : DimDecl) (c : Cond) (codes : List (Option ℕ)) (x : ℕ) → dim.text ≡ false
    → is_against_dim (cond_use c).purpose dim ≡ false
    → passes (coded_test codes (cond_test c)) (Int (pos x)) ≡ passes (cond_test c) (Int (pos x))
asks_of_number dim c codes x number fits = coded_alike dim c codes (Int (pos x)) number fits

asks_alike : (dim : DimDecl) (texts : List (List ℕ)) (c : Cond) (codes : List (Option ℕ)) (x : ℕ)
    → is_against_dim (cond_use c).purpose dim ≡ false → IsDistinct bytes_eq texts
    → BeginWithCodes texts codes (values_of_test (cond_test c)) → StandsForValue dim texts x
    → passes (coded_test codes (cond_test c)) (Int (pos x)) ≡ passes (cond_test c) (value_for texts x)
asks_alike dim texts c codes x fits distinct are named = elim (cases_Bool dim.text) [
  | inl text ↦
      let within = named.text text in
      asks_of_text dim texts c codes x text fits distinct are within
      ∙ ap (passes (cond_test c)) (sym (value_of_text texts x within))
  | inr number ↦
      asks_of_number dim c codes x number fits
      ∙ ap (λ (ts : List (List ℕ)). passes (cond_test c) (value_for ts x)) (sym (named.number number))
]

-- ---- all conditions

values_at : (lists : List (List (List ℕ))) (coords : List ℕ) (place : ℕ)
    → slice_get (values_for lists coords) place ≡ option_map (value_for (texts_at lists place)) (slice_get coords place)
values_at lists [] place = refl
values_at [] (x ∷ coords) zero = refl
values_at [] (x ∷ coords) (suc place) = values_at [] coords place
values_at (texts ∷ lists) (x ∷ coords) zero = refl
values_at (texts ∷ lists) (x ∷ coords) (suc place) = values_at lists coords place

as_many : (dims : List DimDecl) (coords : List ℕ) → AreCoords (sizes_of dims) coords → length coords ≡ length dims
as_many [] [] of = refl
as_many [] (x ∷ coords) of = absurd of
as_many (dim ∷ dims) [] of = absurd of
as_many (dim ∷ dims) (x ∷ coords) of = ap suc (as_many dims coords of.1)

-- The dimension at the place of a condition is the one of its name.
pub dim_there : (d : Decl) (name : List ℕ) (p : ℕ) (e : DimDecl) → dim_place d name ≡ Some p
    → (p < length d.dims) × (dim_named d name ≡ Some (get_or d.dims p e))
dim_there d name p e is =
    let t : DimDecl → Bool = λ dim. bytes_eq dim.name name in
    let place = found t 0 d.dims p is in
    let below : p < 0 + length d.dims = place.below in
    let none : p - 0 ≡ p = omega arith in
    let lt : p < length d.dims = omega arith in
    (lt, finds_there t 0 d.dims p is ∙ ap (slice_get d.dims) none ∙ slice_get-get_or d.dims p e lt)

no_dim : DimDecl
no_dim = record { name = []; text = false; cardinality = 0; range = 0 }

one_holds : (d : Decl) (lists : List (List (List ℕ))) (coords : List ℕ) (c : Cond) (codes : List (Option ℕ)) (p : ℕ)
    → StandForValues d lists coords → AreDistinct lists → is_wrong_use d (cond_use c) ≡ false
    → dim_place d (cond_name c) ≡ Some p → BeginWithCodes (texts_at lists p) codes (values_of_test (cond_test c))
    → holds_of (coord_values coords) (coded_condition codes (record { place = p; test = cond_test c }))
    ≡ holds_of (values_for lists coords) (record { place = p; test = cond_test c })
one_holds d lists coords c codes p named distinct fits is are =
    let there = dim_there d (cond_name c) p no_dim is in
    let dim = get_or d.dims p no_dim in
    let x = get_or coords p 0 in
    let lt : p < length d.dims = there.0 in
    let many : length coords ≡ length d.dims = as_many d.dims coords named.of_cube in
    let has : slice_get coords p ≡ Some x = slice_get-get_or coords p 0 (omega arith) in
    let texts = texts_at lists p in
    let alike = asks_alike dim texts c codes x (not_against d dim c there.1 fits) (distinct p) are
    (named.each p no_dim lt) in
    ap (λ (o : Option Value). option_map_or (passes (coded_test codes (cond_test c))) o false)
    (slice_get-map (λ (y : ℕ). Int (pos y)) coords p ∙ ap (option_map (λ (y : ℕ). Int (pos y))) has)
    ∙ alike
    ∙ ap (λ (o : Option Value). option_map_or (passes (cond_test c)) o false)
    (sym (values_at lists coords p ∙ ap (option_map (value_for texts)) has))

hold_with : (d : Decl) (lists : List (List (List ℕ))) (coords : List ℕ) (c : Cond) (codes : List (Option ℕ))
    (rest : List Condition) (o : Option ℕ) → StandForValues d lists coords → AreDistinct lists
    → is_wrong_use d (cond_use c) ≡ false → dim_place d (cond_name c) ≡ o
    → AreCodesOf lists codes (placed o c rest)
    → ((behind : List (Option ℕ)) → AreCodesOf lists behind rest
    → list_all (holds_of (coord_values coords)) (coded_conditions behind rest)
    ≡ list_all (holds_of (values_for lists coords)) rest)
    → list_all (holds_of (coord_values coords)) (coded_conditions codes (placed o c rest))
    ≡ list_all (holds_of (values_for lists coords)) (placed o c rest)
hold_with d lists coords c codes rest None named distinct fits is are others = others codes are
hold_with d lists coords c codes rest (Some p) named distinct fits is are others =
    λ i. one_holds d lists coords c codes p named distinct fits is are.0 i
    && others (fold codes_behind codes (values_of_test (cond_test c))) are.1 i

all_hold : (d : Decl) (lists : List (List (List ℕ))) (coords : List ℕ) (conds : List Cond) (codes : List (Option ℕ))
    → StandForValues d lists coords → AreDistinct lists → find (is_wrong_use d) (map cond_use conds) ≡ None
    → AreCodesOf lists codes (filter_map (resolved_cond d) conds)
    → list_all (holds_of (coord_values coords)) (coded_conditions codes (filter_map (resolved_cond d) conds))
    ≡ list_all (holds_of (values_for lists coords)) (filter_map (resolved_cond d) conds)
all_hold d lists coords [] codes named distinct fit are = refl
all_hold d lists coords (c ∷ conds) codes named distinct fit are =
    let parts = none_found (is_wrong_use d) (cond_use c) (map cond_use conds) fit in
    hold_with d lists coords c codes (filter_map (resolved_cond d) conds) (dim_place d (cond_name c)) named distinct
    parts.0 refl are (λ behind are_behind. all_hold d lists coords conds behind named distinct parts.1 are_behind)

pub spans_take_regions : SpansTakeRegions
spans_take_regions d s lists codes span fits distinct are has row named =
    has row.coords named.of_cube
    ∙ all_hold d lists row.coords (conds_of s) codes named distinct (kinds_fit d s fits) are
    ∙ ap (λ (b : Bool). b && list_all (holds_of (values_for lists row.coords))
    (filter_map (resolved_cond d) (conds_of s))) (sym (name_is d.name))

-- ---- the codes of a query

is_code : (texts : List (List ℕ)) (text : List ℕ) (o : Option ℕ) → position_from (bytes_eq text) 0 texts ≡ o
    → IsCodeOf texts text o
is_code texts text None is = none_passes (bytes_eq text) texts (finds_nothing (bytes_eq text) 0 texts is)
is_code texts text (Some k) is =
    let place = found (bytes_eq text) 0 texts k is in
    let none : k ≡ k - 0 = omega arith in
    let below : k < 0 + length texts = place.below in
    let passes : bytes_eq text (get_or texts k []) ≡ true =
    (λ j. bytes_eq text (get_or texts (none j) [])) ∙ place.passes [] in
    slice_get-get_or texts k [] (omega arith) ∙ ap Some (sym (names_same text (get_or texts k []) passes))

begin_with : (texts : List (List ℕ)) (values : List Value) (more : List (Option ℕ))
    → BeginWithCodes texts (codes_among texts values ++ more) values
begin_with texts [] more = tt
begin_with texts (Int n ∷ values) more = begin_with texts values more
begin_with texts (Text text ∷ values) more =
    (is_code texts text (code_in texts text) refl, begin_with texts values more)

behind_all : (texts : List (List ℕ)) (values : List Value) (more : List (Option ℕ))
    → fold codes_behind (codes_among texts values ++ more) values ≡ more
behind_all texts [] more = refl
behind_all texts (Int n ∷ values) more = behind_all texts values more
behind_all texts (Text text ∷ values) more = behind_all texts values more

pub are_codes : (lists : List (List (List ℕ))) (conditions : List Condition)
    → AreCodesOf lists (codes_in lists conditions) conditions
are_codes lists [] = tt
are_codes lists (c ∷ conditions) =
    let texts = texts_at lists c.place in
    let values = values_of_test c.test in
    let more = codes_in lists conditions in (
      begin_with texts values more,
      subst (λ (codes : List (Option ℕ)). AreCodesOf lists codes conditions) (sym (behind_all texts values more))
          (are_codes lists conditions),
    )

pub queries_take_regions : QueriesTakeRegions
queries_take_regions d s names q fits distinct on =
    let lists = lists_at names q.cube in
    let conditions = (resolved_region d (conds_of s)).conditions in
    spans_take_regions d s lists (codes_in lists conditions) q.span fits distinct (are_codes lists conditions) on.has

-- ---- answers

one_row : (lists : List (List (List ℕ))) (cube : List ℕ) (row : CodedRow) (coded : List CodedRow)
    (stored : List StoredRow) (a b : Bool) → a ≡ b → map (row_for lists) coded ≡ map (λ r. r.row) stored
    → map (row_for lists) (cond a (row ∷ coded) coded)
    ≡ map (λ r. r.row) (cond b (stored_for cube lists row ∷ stored) stored)
one_row lists cube row coded stored true true is rest = ap (λ (rows : List Row). row_for lists row ∷ rows) rest
one_row lists cube row coded stored false false is rest = rest
one_row lists cube row coded stored true false is rest = absurd cc
one_row lists cube row coded stored false true is rest = absurd cc

rows_alike : (cube : List ℕ) (lists : List (List (List ℕ))) (q : BoundQuery) (region : Region) (rows : List CodedRow)
    → All (λ row. span_has q.span row.coords ≡ region_has region (stored_for cube lists row)) rows
    → map (row_for lists) (filter (λ row. span_has q.span row.coords) rows)
    ≡ map (λ r. r.row) (filter (region_has region) (map (stored_for cube lists) rows))
rows_alike cube lists q region [] same = refl
rows_alike cube lists q region (row ∷ rows) same =
    let P = λ (r : CodedRow). span_has q.span r.coords ≡ region_has region (stored_for cube lists r) in
    one_row lists cube row (filter (λ r. span_has q.span r.coords) rows)
    (filter (region_has region) (map (stored_for cube lists) rows))
    (span_has q.span row.coords) (region_has region (stored_for cube lists row))
    (All-head P row rows same) (rows_alike cube lists q region rows (All-tail P row rows same))

pub queries_answer : QueriesAnswerForValues
queries_answer d s names q rows fits distinct on named =
    let lists = lists_at names q.cube in
    let region = (resolved_query d s).region in
    let takes = queries_take_regions d s names q fits distinct on in
    let same = rows_alike d.name lists q region rows (λ k e lt. takes (get_or rows k e) (named k e lt)) in
    λ i. table_of (on.group i) (on.items i) (same i)
