-- Rows by coordinates: which ones a query takes, their groups, and the rows of values that they stand for.
use Rattle.std.specs.Prelude.{◌≡◌, ℕ, ℤ, pos, IsTrue, List, [], ◌∷◌, length, map, filter, All, FitsSigned, slice_get, slice_index, unwrap_or}
use Rattle.std.specs.Int.{w64}
use Rattle.std.specs.Str.{bytes_eq}
use Rattle.cube_values.specs.declared.query.BoundQuery.{BoundQuery}
use Rattle.cube_values.specs.declared.row.CodedRow.{CodedRow}
use Rattle.cube_values.specs.declared.row.Row.{Row}
use Rattle.cube_values.specs.declared.value.Value.{Value}
use Rattle.cube_values.specs.declared.value.Value.TheVariants.{Text, Int}
use Rattle.cube_values.specs.Queries.{IsSoundQuery}
use Rattle.cube_values.specs.Spans.{span_has}
use Rattle.agg_fold.specs.Tallies.{number_for}

-- A row of the query's cube that its span has. What the items ask of it are numbers of 64 bits.
pub record IsQueryRow (query : BoundQuery) (row : CodedRow) : Type 0 where
  pub sound : IsSoundQuery query (length row.coords) (length row.metrics)
  pub inside : IsTrue (span_has query.span row.coords)
  pub fit : All (λ item. FitsSigned w64 (number_for item row.metrics)) query.items

-- The key of a row is its coordinates in the dimensions of the group.
abbrev pub coded_key : List ℕ → List ℕ → List ℕ
coded_key group coords = map (slice_index coords) group

-- A row has this key.
abbrev pub HasKey : List ℕ → List ℕ → CodedRow → Type 0
HasKey group key row = coded_key group row.coords ≡ key

-- A row by its coordinates and its metrics.
abbrev pub coded_row : List ℕ → List ℤ → CodedRow
coded_row coords metrics = record { coords = coords; metrics = metrics }

-- The metrics of rows.
abbrev pub metrics_of : List CodedRow → List (List ℤ)
metrics_of rows = map (λ row. row.metrics) rows

-- The rows with this key.
abbrev pub rows_with : List ℕ → List CodedRow → List ℕ → List CodedRow
rows_with group rows key = filter (λ row. bytes_eq (coded_key group row.coords) key) rows

-- Their metrics.
abbrev pub metrics_with : List ℕ → List CodedRow → List ℕ → List (List ℤ)
metrics_with group rows key = metrics_of (rows_with group rows key)

-- What a coordinate stands for: the text at its place where its dimension has texts, else the number.
abbrev pub value_for : List (List ℕ) → ℕ → Value
value_for [] coord = Int (pos coord)
value_for (text ∷ texts) coord = Text (unwrap_or (slice_get (text ∷ texts) coord) [])

-- What the coordinates of a row stand for, by the texts of each dimension.
abbrev pub values_for : List (List (List ℕ)) → List ℕ → List Value
values_for lists [] = []
values_for [] (coord ∷ coords) = Int (pos coord) ∷ values_for [] coords
values_for (texts ∷ lists) (coord ∷ coords) = value_for texts coord ∷ values_for lists coords

-- The row that a coded row stands for.
abbrev pub row_for : List (List (List ℕ)) → CodedRow → Row
row_for lists row = record { dims = values_for lists row.coords; metrics = row.metrics }

-- The texts of the dimensions of a query's cube.
abbrev pub texts_for : BoundQuery → List (List (List (List ℕ))) → List (List (List ℕ))
texts_for query names = unwrap_or (slice_get names query.cube) []
