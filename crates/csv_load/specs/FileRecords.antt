-- The records of a file, and what each of them gives: a row, or why it is none.
-- Source: RFC 4180 for fields in quotes, as the library csv reads them; the rest is this project's own.
use Rattle.std.specs.Prelude.{ℕ, ◌+◌, ◌==◌, List, [], ◌∷◌, length, map, drop, ℤ, Option, Some, None, if◌then◌else◌}
use Rattle.std.specs.Option.{option_map, option_or}
use Rattle.csv.specs.Reading.{default_config, records, strip_bom}
use Rattle.cube_values.specs.declared.row.Row.{Row}
use Rattle.cube_values.specs.declared.value.Value.{Value}
use Rattle.cube_values.specs.declared.value.Value.TheVariants.{Text, Int}
use Rattle.cube_language.specs.declared.bad_row.BadRow.{BadRow}
use Rattle.cube_language.specs.declared.bad_row.BadRow.TheVariants.{WrongCount, Column}
use Rattle.cube_language.specs.declared.decl.Decl.{Decl}
use Rattle.cube_language.specs.declared.decl.DimDecl.{DimDecl}
use Rattle.csv_load.specs.Fields.{dim_field_reason, field_coord, field_number, metric_field_reason}

-- The fields of a record.
abbrev pub RecordFields : Type 0
RecordFields = List (List ℕ)

-- The records of a file are those that the library reads, with any count of fields, the first line among them. A
-- byte order mark at the beginning is none of its bytes.
abbrev pub records_of : List ℕ → List RecordFields
records_of bytes = records default_config (strip_bom bytes)

-- The first of the dimensions that its field does not fit.
abbrev pub dims_fault : List DimDecl → RecordFields → Option BadRow
dims_fault (dim ∷ dims) (field ∷ fields) =
    option_or (option_map (Column dim.name) (dim_field_reason dim field)) (dims_fault dims fields)
dims_fault dims fields = None

-- The first of the metrics, by name, that its field does not fit.
abbrev pub metrics_fault : List (List ℕ) → RecordFields → Option BadRow
metrics_fault (name ∷ names) (field ∷ fields) =
    option_or (option_map (Column name) (metric_field_reason field)) (metrics_fault names fields)
metrics_fault names fields = None

-- The first of the columns that its field does not fit, dimensions first.
abbrev pub columns_fault : Decl → RecordFields → Option BadRow
columns_fault d fields = option_or (dims_fault d.dims fields) (metrics_fault d.metrics (drop (length d.dims) fields))

-- Why a record is no row of a cube: it has too few fields or too many, or one that does not fit.
abbrev pub record_fault : Decl → RecordFields → Option BadRow
record_fault d fields =
    if length fields == length d.dims + length d.metrics
    then columns_fault d fields
    else Some (WrongCount (length fields))

-- The coordinates of a record's fields, one for each dimension.
abbrev pub field_coords : List DimDecl → RecordFields → List ℕ
field_coords (dim ∷ dims) (field ∷ fields) = field_coord dim field ∷ field_coords dims fields
field_coords dims fields = []

-- The numbers that fields spell.
abbrev pub field_numbers : RecordFields → List ℤ
field_numbers fields = map field_number fields

-- The value of a field that fits a dimension.
abbrev pub dim_value : DimDecl → List ℕ → Value
dim_value dim field = if dim.text then Text field else Int (field_number field)

-- The values of a record's fields, one for each dimension.
abbrev pub dim_values : List DimDecl → RecordFields → List Value
dim_values (dim ∷ dims) (field ∷ fields) = dim_value dim field ∷ dim_values dims fields
dim_values dims fields = []

-- The row of a record without a fault.
abbrev pub record_row : Decl → RecordFields → Row
record_row d fields = record { dims = dim_values d.dims fields; metrics = field_numbers (drop (length d.dims) fields) }
