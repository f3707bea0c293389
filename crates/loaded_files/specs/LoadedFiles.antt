-- What the file of a LOAD gives, and what is then looked at.
-- Source: this project's own.
use Rattle.std.specs.Prelude.{◌≡◌, ℕ, List, map, Option, Some, Result, Ok, Err, IsErrOf}
use Rattle.cube_values.specs.declared.call_error.CallError.{CallError}
use Rattle.cube_values.specs.declared.call_error.CallError.TheVariants.{Fault, NoMemory}
use Rattle.cube_language.specs.declared.decl.Decl.{Decl}
use Rattle.cube_run.specs.LoadedRows.{load_records, records_looked_at}
use Rattle.cube_run.specs.RunRecords.{Catalog, LoadedFile, Missing, TooLarge, Records, declaration_of, names_of_cube}
use Rattle.csv_load.specs.FileRecords.{records_of}
use Rattle.csv_load.specs.Loads.{BeginsLoad, LoadState}
use Rattle.outside.specs.Files.{content_of}
use Rattle.outside.specs.Given.{Given, given_by, missing, too_long, whole, IsWithin}
use Rattle.outside.specs.ShelfCalls.{ShelfCall, GivesBy, FailsBy, WhereKnown}
use Rattle.outside.specs.declared.reading.FileFault.{FileFault}
use Rattle.outside.specs.declared.reading.FileFault.TheVariants.{Absent, TooLong, Failed}
use Rattle.row_encoding.specs.CodedLoads.{final_records, record_result}
use Rattle.loaded_files.specs.declared.reading.TheConstants.{LOADED_BYTES}

-- What a file gives to a LOAD into any cube: its records are those of its bytes.
abbrev pub loaded_file : Given → LoadedFile
loaded_file missing = Missing
loaded_file (too_long size) = TooLarge size
loaded_file (whole bytes) = Records (λ d. map (record_result d) (records_of bytes))

-- What became of the beginning of a load.
abbrev pub LoadAnswer : Type 0
LoadAnswer = Result LoadState (CallError FileFault)

-- It is this fault.
abbrev pub IsLoadFault : LoadAnswer → FileFault → Type 0
IsLoadFault answer fault = IsErrOf answer (Fault fault)

-- The load of these bytes began, or memory ran out.
abbrev pub BeginsOrWants : Decl → List ℕ → LoadAnswer → Type 0
BeginsOrWants d bytes (Ok load) = BeginsLoad load d bytes
BeginsOrWants d bytes (Err e) = e ≡ NoMemory

-- The answer shows what the file gives, unless the shelf failed or memory ran out.
abbrev pub ShowsLoad : Decl → Given → LoadAnswer → Type 0
ShowsLoad d given (Ok load) = (bytes : List ℕ) × (given ≡ whole bytes) × BeginsLoad load d bytes
ShowsLoad d given (Err (Fault Absent)) = given ≡ missing
ShowsLoad d given (Err (Fault (TooLong size))) = given ≡ too_long size
ShowsLoad d given (Err (Fault Failed)) = Unit {0}
ShowsLoad d given (Err NoMemory) = Unit {0}

-- The calls by which the file gave this, or those by which the shelf failed. Where memory ran out they may be any.
abbrev pub LoadCalls : List ℕ → Given → LoadAnswer → List ShelfCall → List ShelfCall → Type 0
LoadCalls path given (Err (Fault Failed)) past now = FailsBy path LOADED_BYTES past now
LoadCalls path given (Err NoMemory) past now = Unit {0}
LoadCalls path given answer past now = GivesBy path LOADED_BYTES past now given

-- The file of a path gave something, as the shelf tells it where it tells its files, and by these calls where they are
-- known: a size above the limit, or bytes within it. It shows in the answer.
pub record OpensLoad (told : Option (List (List ℕ × List ℕ))) (before after : Option (List ShelfCall))
    (path : List ℕ) (d : Decl) (answer : LoadAnswer) : Type 0 where
  pub given : Given
  pub within : IsWithin LOADED_BYTES given
  pub by_files : (files : List (List ℕ × List ℕ)) → told ≡ Some files
      → given ≡ given_by LOADED_BYTES (content_of files path)
  pub by_calls : WhereKnown (LoadCalls path given answer) before after
  pub shown : ShowsLoad d given answer

-- ---- what holds

-- The records at which a LOAD into the cube of a name looks, of a file with these bytes, are those of the bytes, judged
-- in the end.
abbrev pub LooksAtRecords : Type 0
LooksAtRecords =
    (catalog : Catalog) (cube : List ℕ) (reject : ℕ) (bytes : List ℕ)
    → load_records catalog cube reject (loaded_file (whole bytes))
    ≡ records_looked_at reject
    (final_records (declaration_of catalog cube) (names_of_cube catalog cube) (records_of bytes))
