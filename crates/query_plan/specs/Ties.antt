-- Rows by coordinates and the rows of values that they stand for: a bound statement takes those rows by coordinates
-- that stand for rows of its region, and so a query has the same answer over both.
-- Source: Cubrick (VLDB 2016), dictionary encoding of text dimensions.
use Rattle.std.specs.Prelude.{◌≡◌, ℕ, ◌<◌, true, false, List, [], ◌∷◌, length, map, filter, fold, All, get_or, slice_get, Option, Some, None}
use Rattle.std.specs.List.{IsDistinct, list_any}
use Rattle.std.specs.Str.{bytes_eq}
use Rattle.cube_values.specs.Answer.{answer, table_of}
use Rattle.cube_values.specs.Regions.{region_has}
use Rattle.cube_values.specs.Spans.{span_has}
use Rattle.cube_values.specs.declared.operation.Condition.{Condition}
use Rattle.cube_values.specs.declared.operation.Region.{Region}
use Rattle.cube_values.specs.declared.query.BoundQuery.{BoundQuery}
use Rattle.cube_values.specs.declared.row.CodedRow.{CodedRow}
use Rattle.cube_values.specs.declared.row.Row.{Row}
use Rattle.cube_values.specs.declared.row.StoredRow.{StoredRow}
use Rattle.cube_values.specs.declared.span.Span.{Span}
use Rattle.cube_values.specs.declared.value.Value.{Value}
use Rattle.cube_values.specs.declared.value.Value.TheVariants.{Text, Int}
use Rattle.cube_language.specs.Cubes.{sizes_of}
use Rattle.cube_language.specs.Misfits.{FitsCube}
use Rattle.cube_language.specs.ResolvedNames.{resolved_region, resolved_query}
use Rattle.cube_language.specs.StatementParts.{conds_of}
use Rattle.cube_language.specs.declared.decl.Decl.{Decl}
use Rattle.cube_language.specs.declared.decl.DimDecl.{DimDecl}
use Rattle.cube_language.specs.declared.statement.Statement.{Statement}
use Rattle.agg_fold.specs.Coded.{row_for}
use Rattle.brick_address.specs.Addresses.{AreCoords}
use Rattle.query_plan.specs.Bindings.{IsQueryOn}
use Rattle.condition_spans.specs.CodedConditions.{codes_behind, coded_conditions, values_of_test}
use Rattle.condition_spans.specs.Codes.{lists_at, texts_at}
use Rattle.condition_spans.specs.Spans.{IsSpanOf}

-- ---- rows

-- The row of a cube that a row by coordinates stands for, by the texts of each dimension.
abbrev pub stored_for : List ℕ → List (List (List ℕ)) → CodedRow → StoredRow
stored_for cube lists row = record { cube = cube; row = row_for lists row }

-- A coordinate stands for itself in a dimension of numbers, and for one of the texts in a dimension of texts.
pub record StandsForValue (dim : DimDecl) (texts : List (List ℕ)) (coord : ℕ) : Type 0 where
  pub number : dim.text ≡ false → texts ≡ []
  pub text : dim.text ≡ true → coord < length texts

-- Coordinates of a cube, of which each stands for a value.
pub record StandForValues (d : Decl) (lists : List (List (List ℕ))) (coords : List ℕ) : Type 0 where
  pub of_cube : AreCoords (sizes_of d.dims) coords
  pub each : (k : ℕ) (e : DimDecl) → k < length d.dims
      → StandsForValue (get_or d.dims k e) (texts_at lists k) (get_or coords k 0)

-- No dimension has a text twice.
abbrev pub AreDistinct : List (List (List ℕ)) → Type 0
AreDistinct lists = (place : ℕ) → IsDistinct bytes_eq (texts_at lists place)

-- ---- codes

-- The code of a text is its place; it has none where it does not stand among the texts.
abbrev pub IsCodeOf : List (List ℕ) → List ℕ → Option ℕ → Type 0
IsCodeOf texts text None = list_any (bytes_eq text) texts ≡ false
IsCodeOf texts text (Some code) = slice_get texts code ≡ Some text

-- Codes of the texts among values, in order, and then others.
abbrev pub BeginWithCodes : List (List ℕ) → List (Option ℕ) → List Value → Type 0
BeginWithCodes texts codes [] = Unit {0}
BeginWithCodes texts codes (Int n ∷ values) = BeginWithCodes texts codes values
BeginWithCodes texts [] (Text text ∷ values) = ⊥
BeginWithCodes texts (code ∷ codes) (Text text ∷ values) = IsCodeOf texts text code × BeginWithCodes texts codes values

-- Codes of the texts of conditions, in order.
abbrev pub AreCodesOf : List (List (List ℕ)) → List (Option ℕ) → List Condition → Type 0
AreCodesOf lists codes [] = Unit {0}
AreCodesOf lists codes (c ∷ conditions) =
    BeginWithCodes (texts_at lists c.place) codes (values_of_test c.test)
    × AreCodesOf lists (fold codes_behind codes (values_of_test c.test)) conditions

-- ---- what holds

-- A span takes those rows by coordinates that stand for rows of a region.
abbrev pub TakesRegion : Decl → List (List (List ℕ)) → Region → Span → Type 0
TakesRegion d lists region span =
    (row : CodedRow) → StandForValues d lists row.coords
    → span_has span row.coords ≡ region_has region (stored_for d.name lists row)

-- The span of a statement's conditions takes the rows of its region, for whichever texts the codes are right.
abbrev pub SpansTakeRegions : Type 0
SpansTakeRegions =
    (d : Decl) (s : Statement) (lists : List (List (List ℕ))) (codes : List (Option ℕ)) (span : Span)
    → FitsCube d s → AreDistinct lists → AreCodesOf lists codes (resolved_region d (conds_of s)).conditions
    → IsSpanOf (sizes_of d.dims) (coded_conditions codes (resolved_region d (conds_of s)).conditions) span
    → TakesRegion d lists (resolved_region d (conds_of s)) span

-- The span of a query takes the rows of its region.
abbrev pub QueriesTakeRegions : Type 0
QueriesTakeRegions =
    (d : Decl) (s : Statement) (names : List (List (List (List ℕ)))) (q : BoundQuery)
    → FitsCube d s → AreDistinct (lists_at names q.cube) → IsQueryOn d names s q
    → TakesRegion d (lists_at names q.cube) (resolved_query d s).region q.span

-- The rows by coordinates that a query takes, as the rows that they stand for.
abbrev pub rows_taken : List (List (List ℕ)) → BoundQuery → List CodedRow → List Row
rows_taken lists q rows = map (row_for lists) (filter (λ row. span_has q.span row.coords) rows)

-- The table of the rows that a query takes is the answer of the statement's query over what all rows stand for.
abbrev pub QueriesAnswerForValues : Type 0
QueriesAnswerForValues =
    (d : Decl) (s : Statement) (names : List (List (List (List ℕ)))) (q : BoundQuery) (rows : List CodedRow)
    → FitsCube d s → AreDistinct (lists_at names q.cube) → IsQueryOn d names s q
    → All (λ row. StandForValues d (lists_at names q.cube) row.coords) rows
    → table_of q.group q.items (rows_taken (lists_at names q.cube) q rows)
    ≡ answer (resolved_query d s) (map (stored_for d.name (lists_at names q.cube)) rows)
