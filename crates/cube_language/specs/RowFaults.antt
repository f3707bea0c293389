-- Which rows a cube can store.
-- Source: this project's own.
use Rattle.std.specs.Prelude.{ℕ, ◌+◌, ◌==◌, nat_lt, List, [], ◌∷◌, length, pos, negsuc, ℤ, Option, Some, None, if◌then◌else◌}
use Rattle.std.specs.Option.{option_map, option_or}
use Rattle.cube_values.specs.declared.value.Value.{Value}
use Rattle.cube_values.specs.declared.value.Value.TheVariants.{Text, Int}
use Rattle.cube_language.specs.declared.bad_row.BadRow.{BadRow}
use Rattle.cube_language.specs.declared.bad_row.BadRow.TheVariants as bad
use Rattle.cube_language.specs.declared.bad_row.Reason.{Reason}
use Rattle.cube_language.specs.declared.bad_row.Reason.TheVariants.{NotNumber, OutOfRange, NotText, TooLong}
use Rattle.cube_language.specs.declared.bad_row.TheConstants.{TEXT_BYTES}
use Rattle.cube_language.specs.Columns.{columns_of, column_name}
use Rattle.cube_language.specs.declared.decl.Column.{Column}
use Rattle.cube_language.specs.declared.decl.Column.TheVariants.{Dim, Metric}
use Rattle.cube_language.specs.declared.decl.Decl.{Decl}
use Rattle.cube_language.specs.declared.decl.DimDecl.{DimDecl}

-- Why a text is no value of a dimension of texts.
abbrev pub text_reason : List ℕ → Option Reason
text_reason text = if nat_lt TEXT_BYTES (length text) then Some TooLong else None

-- Why a number is no coordinate below this one.
abbrev pub coord_reason : ℕ → ℤ → Option Reason
coord_reason cardinality (pos n) = if nat_lt n cardinality then None else Some OutOfRange
coord_reason cardinality (negsuc n) = Some OutOfRange

-- Why a value does not fit a dimension.
abbrev pub dim_reason : DimDecl → Value → Option Reason
dim_reason dim (Text text) = if dim.text then text_reason text else Some NotNumber
dim_reason dim (Int n) = if dim.text then Some NotText else coord_reason dim.cardinality n

-- Why a value does not fit a column. A metric has numbers.
abbrev pub value_reason : Column → Value → Option Reason
value_reason (Dim dim) v = dim_reason dim v
value_reason (Metric name) (Int n) = None
value_reason (Metric name) (Text text) = Some NotNumber

-- The first of the columns that its value does not fit.
abbrev pub column_fault : List Column → List Value → Option BadRow
column_fault (column ∷ columns) (v ∷ values) =
    option_or (option_map (bad.Column (column_name column)) (value_reason column v)) (column_fault columns values)
column_fault columns values = None

-- Why a row cannot be stored: it has too few values or too many, or one that does not fit.
abbrev pub row_fault : Decl → List Value → Option BadRow
row_fault d values =
    if length values == length (columns_of d)
    then column_fault (columns_of d) values
    else Some (bad.WrongCount (length values))

-- The first row that cannot be stored, with its number, of which the first row has this one.
abbrev pub bad_row_from : ℕ → Decl → List (List Value) → Option (ℕ × BadRow)
bad_row_from number d [] = None
bad_row_from number d (values ∷ rows) =
    option_or (option_map (λ why. (number, why)) (row_fault d values)) (bad_row_from (number + 1) d rows)

-- The first row that cannot be stored, counted from 1.
abbrev pub first_bad_row : Decl → List (List Value) → Option (ℕ × BadRow)
first_bad_row d rows = bad_row_from 1 d rows
