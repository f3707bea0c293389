-- Which rows an INSERT or a LOAD has, by the dictionaries that the run ends with: since names are never taken back, a
-- text found no place exactly where the final dictionary is full and lacks it.
-- Source: Cubrick (VLDB 2016), dictionaries of dimensions; the rest is this project's own.
use Rattle.std.specs.Prelude.{ℕ, Bool, not, ◌&&◌, nat_le, zero, suc, List, [], ◌∷◌, length, map, filter_map, take, drop, pos, ℤ, Option, Some, None, Result, Ok, Err, if◌then◌else◌}
use Rattle.std.specs.List.{list_any, enumerate_from}
use Rattle.std.specs.Option.{option_map, option_map_or, option_or}
use Rattle.std.specs.Str.{bytes_eq}
use Rattle.cube_values.specs.declared.row.Row.{Row}
use Rattle.cube_values.specs.declared.value.Value.{Value}
use Rattle.cube_values.specs.declared.value.Value.TheVariants.{Text, Int}
use Rattle.cube_language.specs.declared.bad_row.BadRow.{BadRow}
use Rattle.cube_language.specs.declared.bad_row.BadRow.TheVariants.{Column}
use Rattle.cube_language.specs.declared.bad_row.Reason.TheVariants.{DictionaryFull}
use Rattle.cube_language.specs.declared.decl.Decl.{Decl}
use Rattle.cube_language.specs.declared.decl.DimDecl.{DimDecl}
use Rattle.cube_journal.specs.declared.reply.Rejection.{Rejection}
use Rattle.cube_run.specs.RunRecords.{LoadedFile, Records, Catalog, declaration_of, names_of_cube}

-- The dictionary of a dimension has as many names as the dimension has coordinates, and lacks the text.
abbrev pub has_no_place_for : DimDecl → List (List ℕ) → List ℕ → Bool
has_no_place_for dim names text =
    nat_le dim.cardinality (length names) && not (list_any (λ name. bytes_eq name text) names)

-- A column by its name, and the text that it has in a row.
pub record ColumnText : Type 0 where
  pub column : List ℕ
  pub text : List ℕ

-- The first text of a row that its dictionary has no place for. A dictionary that is not there is empty, and has one.
abbrev pub text_without_place : List DimDecl → List (List (List ℕ)) → List Value → Option ColumnText
text_without_place (dim ∷ dims) (names ∷ lists) (Text text ∷ values) =
    if has_no_place_for dim names text
    then Some (record { column = dim.name; text = text })
    else text_without_place dims lists values
text_without_place (dim ∷ dims) (names ∷ lists) (Int n ∷ values) = text_without_place dims lists values
text_without_place dims lists values = None

-- The first text of rows, by rows and then by columns, that its dictionary has no place for.
abbrev pub first_without_place : Decl → List (List (List ℕ)) → List (List Value) → Option (List ℕ)
first_without_place d lists [] = None
first_without_place d lists (values ∷ rows) =
    option_or
    (option_map (λ t. t.text) (text_without_place d.dims lists (take (length d.dims) values)))
    (first_without_place d lists rows)

-- What a record of a file is in the end: a row, or bad, also where a dictionary has no place for one of its texts.
abbrev pub judged_record : Decl → List (List (List ℕ)) → Result Row BadRow → Result Row BadRow
judged_record d lists (Ok row) =
    option_map_or (λ t. Err (Column t.column DictionaryFull)) (text_without_place d.dims lists row.dims) (Ok row)
judged_record d lists (Err why) = Err why

-- The records at which a LOAD looks that allows so many bad ones: up to the one that is one too many, or all.
abbrev pub records_looked_at : ℕ → List (Result Row BadRow) → List (Result Row BadRow)
records_looked_at reject [] = []
records_looked_at reject (Ok row ∷ records) = Ok row ∷ records_looked_at reject records
records_looked_at zero (Err why ∷ records) = Err why ∷ []
records_looked_at (suc reject) (Err why ∷ records) = Err why ∷ records_looked_at reject records

-- The records at which a LOAD into the cube of a name looks, judged.
abbrev pub load_records : Catalog → List ℕ → ℕ → LoadedFile → List (Result Row BadRow)
load_records catalog cube reject (Records records) =
    let d = declaration_of catalog cube in
    records_looked_at reject (map (judged_record d (names_of_cube catalog cube)) (records d))
load_records catalog cube reject file = []

abbrev pub row_in : Result Row BadRow → Option Row
row_in (Ok row) = Some row
row_in (Err why) = None

abbrev pub rejection_in : ℕ × Result Row BadRow → Option Rejection
rejection_in (number, Ok row) = None
rejection_in (number, Err why) = Some (record { number = number; why = why })

-- The rows among records.
abbrev pub rows_among : List (Result Row BadRow) → List Row
rows_among records = filter_map row_in records

-- The bad ones among records, which are counted from 1.
abbrev pub rejections_among : List (Result Row BadRow) → List Rejection
rejections_among records = filter_map rejection_in (enumerate_from 1 records)

-- A metric's value.
abbrev pub metric_value : Value → ℤ
metric_value (Int n) = n
metric_value (Text text) = pos 0

-- The row that the values of an INSERT are, dimensions first.
abbrev pub row_of_values : Decl → List Value → Row
row_of_values d values = record {
  dims = take (length d.dims) values;
  metrics = map metric_value (drop (length d.dims) values);
}
