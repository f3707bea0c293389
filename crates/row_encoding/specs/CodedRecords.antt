-- What becomes of a record of a file that is a row, by the names that the cube has in the end.
-- Source: Cubrick (VLDB 2016), dictionary encoding of text dimensions; the rest is this project's own.
use Rattle.std.specs.Prelude.{◌≡◌, ℕ, List, [], get_or, Option, Some, None, Ok, Err}
use Rattle.cube_values.specs.declared.row.CodedRow.{CodedRow}
use Rattle.cube_values.specs.declared.row.Row.{Row}
use Rattle.cube_values.specs.declared.value.Value.{Value}
use Rattle.cube_language.specs.declared.bad_row.BadRow.{BadRow}
use Rattle.cube_language.specs.declared.decl.Decl.{Decl}
use Rattle.cube_run.specs.LoadedRows.{judged_record}
use Rattle.agg_fold.specs.Coded.{row_for}
use Rattle.csv_load.specs.FileRecords.{dim_value, dim_values}
use Rattle.csv_load.specs.Loads.{IsRow, LoadState}
use Rattle.row_encoding.specs.FinalCodes.{dim_at}
use Rattle.row_encoding.specs.CodedValues.{HaveNames, HaveText, NumbersHaveNoNames}

-- The record that a load into a cube read last is a row.
pub record ReadRow (d : Decl) (load : LoadState) : Type 0 where
  pub cube : load.decl ≡ d
  pub row : IsRow d load.fields load.coords load.metrics

-- The value of a dimension in the record that was read last.
abbrev pub value_read : Decl → LoadState → ℕ → Value
value_read d load dim = dim_value (dim_at d.dims dim) (get_or load.fields dim [])

-- The record that was read last has this text in this dimension.
abbrev pub RecordHasText : Decl → LoadState → ℕ → List ℕ → Type 0
RecordHasText d load dim text = HaveText (dim_values d.dims load.fields) dim text

-- A coded row stands for a row of a file, and each text has a place.
pub record RowStandsFor (d : Decl) (lists : List (List (List ℕ))) (row : Row) (coded : CodedRow) : Type 0 where
  pub values : NumbersHaveNoNames d lists → row_for lists coded ≡ row
  pub names : HaveNames d lists coded.coords
  pub good : judged_record d lists (Ok row) ≡ Ok row

-- A coded row stands for a row of a file, or that is bad in the end for this reason.
abbrev pub IsCodedRecord : Decl → List (List (List ℕ)) → Row → CodedRow → Option BadRow → Type 0
IsCodedRecord d lists row coded None = RowStandsFor d lists row coded
IsCodedRecord d lists row coded (Some why) = judged_record d lists (Ok row) ≡ Err why
