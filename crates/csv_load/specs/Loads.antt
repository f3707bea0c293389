-- What a load has read, and what each of its steps does.
-- Source: this project's own.
use Rattle.std.specs.Prelude.{◌≡◌, ℕ, ◌+◌, true, List, [], ◌∷◌, length, drop, ℤ, None, Some, IsUtf8}
use Rattle.cube_language.specs.declared.bad_row.BadRow.{BadRow}
use Rattle.cube_language.specs.declared.decl.Decl.{Decl}
use Rattle.cube_language.specs.declared.decl.DimDecl.{DimDecl}
use Rattle.cube_values.specs.declared.row.Row.{Row}
use Rattle.csv_load.specs.FileRecords.{RecordFields, field_coords, field_numbers, record_fault, records_of, record_row}
use Rattle.csv_load.specs.declared.step.Step.{Step}
use Rattle.csv_load.specs.declared.step.Step.TheVariants as step
use Rattle.csv_load.specs.declared.step.Record.{Record}
use Rattle.csv_load.specs.declared.step.Record.TheVariants as rec

-- A load of records into a cube: how many it has read, the fields, coordinates and metrics of the last, and the
-- records that are left.
pub record LoadState : Type 0 where
  pub decl : Decl
  pub number : ℕ
  pub fields : RecordFields
  pub coords : List ℕ
  pub metrics : List ℤ
  pub left : List RecordFields

-- A load of a file at its beginning.
pub record BeginsLoad (load : LoadState) (decl : Decl) (bytes : List ℕ) : Type 0 where
  pub cube : load.decl ≡ decl
  pub none : load.number ≡ 0
  pub all : load.left ≡ records_of bytes

-- A load takes its next record and counts it.
pub record TakesRecord (old new : LoadState) : Type 0 where
  pub cube : new.decl ≡ old.decl
  pub count : new.number ≡ old.number + 1
  pub next : old.left ≡ new.fields ∷ new.left

-- A load has no record left, and stays so.
pub record IsOver (old new : LoadState) : Type 0 where
  pub cube : new.decl ≡ old.decl
  pub count : new.number ≡ old.number
  pub none : old.left ≡ []
  pub still : new.left ≡ []

-- Each field of a dimension of texts is UTF-8.
abbrev pub AreTexts : List DimDecl → RecordFields → Type 0
AreTexts (dim ∷ dims) (field ∷ fields) = (dim.text ≡ true → IsUtf8 field) × AreTexts dims fields
AreTexts dims fields = Unit {0}

-- The record read last is a row, of which these are the coordinates and the metrics, one for each column.
pub record IsRow (decl : Decl) (fields : RecordFields) (coords : List ℕ) (metrics : List ℤ) : Type 0 where
  pub fits : record_fault decl fields ≡ None
  pub width : length fields ≡ length decl.dims + length decl.metrics
  pub texts : AreTexts decl.dims fields
  pub coordinates : coords ≡ field_coords decl.dims fields
  pub places : length coords ≡ length decl.dims
  pub numbers : metrics ≡ field_numbers (drop (length decl.dims) fields)

-- What a step answers of the record that it took.
abbrev pub IsJudged : Decl → RecordFields → List ℕ → List ℤ → Step → Type 0
IsJudged decl fields coords metrics step.Good = IsRow decl fields coords metrics
IsJudged decl fields coords metrics (step.Bad fault) = record_fault decl fields ≡ Some fault
IsJudged decl fields coords metrics step.End = ⊥

-- A step takes a record and judges it, or there is none left.
abbrev pub IsLoadStep : LoadState → LoadState → Step → Type 0
IsLoadStep old new step.End = IsOver old new
IsLoadStep old new answer = TakesRecord old new × IsJudged new.decl new.fields new.coords new.metrics answer

-- A load takes its next record, which is this row and has this number.
pub record GivesRow (old new : LoadState) (number : ℕ) (row : Row) : Type 0 where
  pub takes : TakesRecord old new
  pub numbered : number ≡ new.number
  pub fits : record_fault new.decl new.fields ≡ None
  pub values : row ≡ record_row new.decl new.fields

-- A load takes its next record, which has this number and is no row for this reason.
pub record GivesFault (old new : LoadState) (number : ℕ) (reason : BadRow) : Type 0 where
  pub takes : TakesRecord old new
  pub numbered : number ≡ new.number
  pub fault : record_fault new.decl new.fields ≡ Some reason

-- The next record as a value: a row or why it is none, with its number.
abbrev pub IsNextRecord : LoadState → LoadState → Record → Type 0
IsNextRecord old new rec.End = IsOver old new
IsNextRecord old new (rec.Good number row) = GivesRow old new number row
IsNextRecord old new (rec.Bad number reason) = GivesFault old new number reason
