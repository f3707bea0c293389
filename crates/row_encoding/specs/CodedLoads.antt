-- What a LOAD makes of the records of a file, one batch of rows after the other, by the names that the cube has in the
-- end.
-- Source: this project's own.
use Rattle.std.specs.Prelude.{◌≡◌, ℕ, ◌+◌, ◌-◌, ◌<◌, ◌≤◌, List, [], ◌∷◌, ◌++◌, length, map, filter_map, take, All, Contains, None, Result, Ok, Err}
use Rattle.std.specs.List.{enumerate_from}
use Rattle.std.specs.Option.{option_map_or}
use Rattle.cube_values.specs.declared.row.CodedRow.{CodedRow}
use Rattle.cube_values.specs.declared.row.Row.{Row}
use Rattle.cube_language.specs.declared.bad_row.BadRow.{BadRow}
use Rattle.cube_language.specs.declared.decl.Decl.{Decl}
use Rattle.cube_journal.specs.declared.reply.Rejection.{Rejection}
use Rattle.cube_run.specs.LoadedRows.{judged_record, records_looked_at, rejection_in, rows_among}
use Rattle.cube_run.specs.RunText.{shown_rejections}
use Rattle.agg_fold.specs.Coded.{row_for}
use Rattle.csv_load.specs.FileRecords.{RecordFields, dim_values, record_fault, record_row}
use Rattle.csv_load.specs.Loads.{IsOver, LoadState, TakesRecord}
use Rattle.row_encoding.specs.CodedValues.{HaveNames, HaveText, NumbersHaveNoNames}
use Rattle.row_encoding.specs.CodedRecords.{RowStandsFor}
use Rattle.row_encoding.specs.FinalCodes.{InTheEnd}
use Rattle.row_encoding.specs.declared.load.RecordOutcome.{RecordOutcome}
use Rattle.row_encoding.specs.declared.load.RecordOutcome.TheVariants as record_is
use Rattle.row_encoding.specs.declared.load.BadRecords.{BadRecords}
use Rattle.row_encoding.specs.declared.load.BatchEnd.{BatchEnd}
use Rattle.row_encoding.specs.declared.load.TheConstants.{BATCH_ROWS}
use Rattle.row_encoding.specs.declared.load.BatchEnd.TheVariants as batch_is

-- ---- records

-- What a record is before a name is encoded: a row, or why it is none.
abbrev pub record_result : Decl → RecordFields → Result Row BadRow
record_result d fields = option_map_or Err (record_fault d fields) (Ok (record_row d fields))

-- What a record is in the end.
abbrev pub final_record : Decl → List (List (List ℕ)) → RecordFields → Result Row BadRow
final_record d lists fields = judged_record d lists (record_result d fields)

-- What records are in the end.
abbrev pub final_records : Decl → List (List (List ℕ)) → List RecordFields → List (Result Row BadRow)
final_records d lists records = map (final_record d lists) records

-- The bad ones among records of which the first has this number.
abbrev pub rejections_from : ℕ → List (Result Row BadRow) → List Rejection
rejections_from number records = filter_map rejection_in (enumerate_from number records)

-- ---- one record

-- A load took a record, or there was none left.
abbrev pub IsTaken : LoadState → LoadState → RecordOutcome → Type 0
IsTaken old new record_is.End = IsOver old new
IsTaken old new found = TakesRecord old new

-- What was found is what the record is in the end: a row, for which the coded one stands, or bad.
abbrev pub IsFoundRecord : Decl → List (List (List ℕ)) → RecordFields → CodedRow → RecordOutcome → Type 0
IsFoundRecord d lists fields coded record_is.Row =
    (final_record d lists fields ≡ Ok (record_row d fields)) × RowStandsFor d lists (record_row d fields) coded
IsFoundRecord d lists fields coded (record_is.Bad why) = final_record d lists fields ≡ Err why
IsFoundRecord d lists fields coded record_is.End = Unit {0}

-- A row that was found stands at the end of the rows, and there is no other new one.
abbrev pub rows_then : List CodedRow → CodedRow → RecordOutcome → List CodedRow
rows_then rows coded record_is.Row = rows ++ coded ∷ []
rows_then rows coded found = rows

-- ---- a batch

-- The records that a load took from one state to another.
abbrev pub records_between : LoadState → LoadState → List RecordFields
records_between old new = take (new.number - old.number) old.left

-- From one state to another a load took the records before those that it has left, and counted them.
pub record LoadGoesOn (old new : LoadState) : Type 0 where
  pub cube : new.decl ≡ old.decl
  pub count : new.number ≡ old.number + length (records_between old new)
  pub left : old.left ≡ records_between old new ++ new.left

-- These are the bad records: they are counted, and the first are kept, as many as are shown.
pub record Tell (bad : BadRecords) (all : List Rejection) : Type 0 where
  pub count : bad.count ≡ length all
  pub first : bad.first ≡ take shown_rejections all

-- What a LOAD that allows so many bad records looks at behind a batch.
abbrev pub looked_at_later : ℕ → List (Result Row BadRow) → BatchEnd → List (Result Row BadRow)
looked_at_later allowed records batch_is.Full = records_looked_at allowed records
looked_at_later allowed records ended = []

-- A batch of a LOAD that allows so many bad records has the rows among the records that it took, the bad ones among
-- them are told, and with what is looked at later they are what the LOAD looks at.
pub record TakesBatch (d : Decl) (lists : List (List (List ℕ))) (allowed : ℕ) (old new : LoadState)
    (before after : BadRecords) (coded : List CodedRow) (ended : BatchEnd) : Type 0 where
  pub rows : NumbersHaveNoNames d lists
      → map (row_for lists) coded ≡ rows_among (final_records d lists (records_between old new))
  pub names : All (λ row. HaveNames d lists row.coords) coded
  pub faults : (all : List Rejection) → Tell before all
      → Tell after (all ++ rejections_from (old.number + 1) (final_records d lists (records_between old new)))
  pub looked : records_looked_at (allowed - before.count) (final_records d lists old.left)
      ≡ final_records d lists (records_between old new)
      ++ looked_at_later (allowed - after.count) (final_records d lists new.left) ended

-- A batch ended so: it has all rows that it may have, or no record is left, or one bad record more than are allowed
-- was found.
abbrev pub BatchHasEnded : ℕ → LoadState → BadRecords → List CodedRow → BatchEnd → Type 0
BatchHasEnded allowed load bad rows batch_is.Full = (length rows ≡ BATCH_ROWS) × (bad.count ≤ allowed)
BatchHasEnded allowed load bad rows batch_is.End = (load.left ≡ []) × (bad.count ≤ allowed)
BatchHasEnded allowed load bad rows batch_is.TooMany = bad.count ≡ allowed + 1

-- The next record of a load is a row that has this text in this dimension.
pub record HaveTextNext (d : Decl) (load : LoadState) (dim : ℕ) (text : List ℕ) : Type 0 where
  pub fields : RecordFields
  pub rest : List RecordFields
  pub are : load.left ≡ fields ∷ rest
  pub row : record_fault d fields ≡ None
  pub here : HaveText (dim_values d.dims fields) dim text

-- One of the records that a load took is a row that has this text in this dimension.
pub record HaveTextAmong (d : Decl) (old new : LoadState) (dim : ℕ) (text : List ℕ) : Type 0 where
  pub fields : RecordFields
  pub one : Contains (records_between old new) fields
  pub row : record_fault d fields ≡ None
  pub here : HaveText (dim_values d.dims fields) dim text

-- One of the records that a load has left is a row that has this text in this dimension, and a LOAD that allows so many
-- bad ones looks at it, whatever names the dictionaries end with.
pub record HaveTextLookedAt (may_end : List (List (List (List ℕ))) → Type 0) (place : ℕ) (d : Decl) (allowed : ℕ)
    (load : LoadState) (dim : ℕ) (text : List ℕ) : Type 0 where
  pub before : List RecordFields
  pub fields : RecordFields
  pub rest : List RecordFields
  pub are : load.left ≡ before ++ fields ∷ rest
  pub row : record_fault d fields ≡ None
  pub here : HaveText (dim_values d.dims fields) dim text
  pub looked : InTheEnd may_end place
      (λ lists. length before < length (records_looked_at allowed (final_records d lists load.left)))
