-- What the shelf tells of the files that were read, and the calls by which they were.
-- Source: this project's own.
use Rattle.std.specs.Prelude.{◌≡◌, ℕ, List, [], ◌∷◌, Option, Some, None, Result, Ok, Err}
use Rattle.cube_values.specs.declared.call_error.CallError.{CallError}
use Rattle.cube_values.specs.declared.call_error.CallError.TheVariants.{Fault, NoMemory}
use Rattle.outside.specs.declared.reading.FileFault.{FileFault}
use Rattle.outside.specs.declared.reading.FileFault.TheVariants.{Absent as NoFile, TooLong, Failed}
use Rattle.outside.specs.Counts.{Rose}
use Rattle.outside.specs.Files.{content_of}
use Rattle.outside.specs.Given.{Given, given_by, IsWithin}
use Rattle.outside.specs.ShelfCalls.{ShelfCall, GivesBy, FailsBy, WhereKnown}
use Rattle.run_files.specs.declared.bad_file.BadFile.{BadFile}
use Rattle.run_files.specs.declared.bad_file.BadFile.TheVariants.{Absent, ReadFailed}
use Rattle.run_files.specs.RunFiles.{RunFile, FileReading, Gives, Fails, file_name, file_limit, IsAbsent, IsUnread, IsRefusedSize, IsBad}

-- What a file gives is within its limit, and what the shelf tells of it, where the shelf tells its files.
abbrev pub IsGivenAs : Option (List (List ℕ × List ℕ)) → RunFile → Given → Type 0
IsGivenAs told file given =
    IsWithin (file_limit file) given
    × ((files : List (List ℕ × List ℕ)) → told ≡ Some files
    → given ≡ given_by (file_limit file) (content_of files (file_name file)))

abbrev pub IsToldAs : Option (List (List ℕ × List ℕ)) → RunFile → FileReading → Type 0
IsToldAs told file (Gives given) = IsGivenAs told file given
IsToldAs told file Fails = Unit {0}

-- The calls by which reading a file came to this.
abbrev pub ReadsBy : RunFile → FileReading → List ShelfCall → List ShelfCall → Type 0
ReadsBy file (Gives given) past now = GivesBy (file_name file) (file_limit file) past now given
ReadsBy file Fails past now = FailsBy (file_name file) (file_limit file) past now

-- The calls by which files were read, one after the other.
abbrev pub ReadInTurn : (RunFile → FileReading) → List RunFile → List ShelfCall → List ShelfCall → Type 0
ReadInTurn reading [] past now = now ≡ past
ReadInTurn reading (file ∷ files) past now =
    (between : List ShelfCall) × ReadsBy file (reading file) past between × ReadInTurn reading files between now

-- The shelf's count of absences rises exactly where a file is absent, and its count of faults exactly where one could
-- not be read.
abbrev pub AbsenceRises : Option BadFile → ℕ → ℕ → Type 0
AbsenceRises (Some (Absent name)) before now = Rose before now
AbsenceRises bad before now = now ≡ before

abbrev pub FaultRises : Option BadFile → ℕ → ℕ → Type 0
FaultRises (Some (ReadFailed name)) before now = Rose before now
FaultRises bad before now = now ≡ before

-- The bad file that an answer tells of.
abbrev pub bad_in : {T : Type 0} → Result T (CallError BadFile) → Option BadFile
bad_in (Err (Fault bad)) = Some bad
bad_in answer = None

-- What is wrong with a file for which the shelf answered this.
abbrev pub IsBadFor : RunFile → FileFault → BadFile → Type 0
IsBadFor file NoFile bad = IsAbsent file bad
IsBadFor file Failed bad = IsUnread file bad
IsBadFor file (TooLong size) bad = IsRefusedSize file size bad

-- The answer for a file that was not read: what is wrong with it, or that memory ran out.
abbrev pub IsBadAnswer : RunFile → CallError FileFault → CallError BadFile → Type 0
IsBadAnswer file (Fault fault) (Fault bad) = IsBadFor file fault bad
IsBadAnswer file NoMemory NoMemory = Unit {0}
IsBadAnswer file error answer = ⊥

-- An answer shows what the file's reading came to, unless memory ran out: something of a file in order, or what is
-- wrong with it.
abbrev pub ShowsFile :
    {T : Type 0} → (T → Given → Type 0) → RunFile → FileReading → Result T (CallError BadFile) → Type 0
ShowsFile holds file (Gives given) (Ok value) = holds value given
ShowsFile holds file Fails (Ok value) = ⊥
ShowsFile holds file reading (Err (Fault bad)) = IsBad file reading bad
ShowsFile holds file reading (Err NoMemory) = Unit {0}

-- The calls of a file that was read; where memory ran out they may be any.
abbrev pub ReadsUnlessNoMemory :
    {T : Type 0} → RunFile → FileReading → Result T (CallError BadFile) → List ShelfCall → List ShelfCall → Type 0
ReadsUnlessNoMemory file reading (Err NoMemory) past now = Unit {0}
ReadsUnlessNoMemory file reading answer past now = ReadsBy file reading past now

-- A file was read, or memory ran out: its reading is as the shelf tells it, came by these calls, and shows in the answer.
pub record IsRead
    {T : Type 0}
    (holds : T → Given → Type 0)
    (told : Option (List (List ℕ × List ℕ)))
    (before now : Option (List ShelfCall))
    (file : RunFile)
    (answer : Result T (CallError BadFile))
    : Type 0 where
  pub reading : FileReading
  pub as_told : IsToldAs told file reading
  pub calls : WhereKnown (ReadsUnlessNoMemory file reading answer) before now
  pub shown : ShowsFile holds file reading answer
