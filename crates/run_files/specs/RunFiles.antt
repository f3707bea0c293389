-- The files that a run reads before its sessions, when each is in order, and what is wrong with one that is not.
-- Source: this project's own.
use Rattle.std.specs.Prelude.{◌≡◌, ℕ, List, ◌∷◌, ◌++◌, Option, Some, None}
use Rattle.std.specs.List.{AllByRecursion}
use Rattle.cube_language.specs.declared.decl.Decl.{Decl}
use Rattle.cube_language.specs.declared.piece.Piece.{Piece}
use Rattle.cube_language.specs.CubesText.{Declares, HasCubesFault}
use Rattle.cube_language.specs.Pieces.{IsScript, HasScriptFault}
use Rattle.outside.specs.Given.{Given, missing, too_long, whole}
use Rattle.run_files.specs.declared.bad_file.BadFile.{BadFile}
use Rattle.run_files.specs.declared.bad_file.BadFile.TheVariants.{Absent, ReadFailed, CubesTooLong, Cubes, ScriptTooLong, Script}
use Rattle.run_files.specs.declared.reading.TheConstants.{CUBES_BYTES, SCRIPT_BYTES}

-- A file by its name: the cubes file, or the script of a session.
pub data RunFile : Type 0 where
  CubesFile : List ℕ → RunFile
  ScriptFile : ℕ → List ℕ → RunFile

abbrev pub file_name : RunFile → List ℕ
file_name (CubesFile name) = name
file_name (ScriptFile session name) = name

-- The most bytes of a file.
abbrev pub file_limit : RunFile → ℕ
file_limit (CubesFile name) = CUBES_BYTES
file_limit (ScriptFile session name) = SCRIPT_BYTES

-- What reading a file comes to: what the file gives, or that the shelf fails.
pub data FileReading : Type 0 where
  Gives : Given → FileReading
  Fails : FileReading

-- The text of a file is in order: it declares cubes, or has statements.
abbrev pub IsTextOf : RunFile → List ℕ → Type 0
IsTextOf (CubesFile name) text = (cubes : List Decl) × Declares text cubes
IsTextOf (ScriptFile session name) text = (pieces : List Piece) × IsScript text pieces

-- The text of a file is refused for this.
abbrev pub IsRefusedText : RunFile → List ℕ → BadFile → Type 0
IsRefusedText (CubesFile name) text (Cubes fault) = HasCubesFault text fault
IsRefusedText (ScriptFile session name) text (Script script fault) = (script ≡ session) × HasScriptFault text fault
IsRefusedText file text bad = ⊥

-- The size of a file is refused so.
abbrev pub IsRefusedSize : RunFile → ℕ → BadFile → Type 0
IsRefusedSize (CubesFile name) size (CubesTooLong found) = found ≡ size
IsRefusedSize (ScriptFile session name) size (ScriptTooLong script found) = (script ≡ session) × (found ≡ size)
IsRefusedSize file size bad = ⊥

-- No file of this name is there; or it could not be read.
abbrev pub IsAbsent : RunFile → BadFile → Type 0
IsAbsent file (Absent name) = name ≡ file_name file
IsAbsent file bad = ⊥

abbrev pub IsUnread : RunFile → BadFile → Type 0
IsUnread file (ReadFailed name) = name ≡ file_name file
IsUnread file bad = ⊥

-- A file is in order by what reading it comes to.
abbrev pub ReadsInOrder : RunFile → FileReading → Type 0
ReadsInOrder file (Gives (whole text)) = IsTextOf file text
ReadsInOrder file reading = ⊥

-- What is wrong with a file by what reading it comes to.
abbrev pub IsBad : RunFile → FileReading → BadFile → Type 0
IsBad file Fails bad = IsUnread file bad
IsBad file (Gives missing) bad = IsAbsent file bad
IsBad file (Gives (too_long size)) bad = IsRefusedSize file size bad
IsBad file (Gives (whole text)) bad = IsRefusedText file text bad

-- Each of these files is in order.
abbrev pub AreInOrder : (RunFile → FileReading) → List RunFile → Type 0
AreInOrder reading files = AllByRecursion (λ file. ReadsInOrder file (reading file)) files

-- The first of these files that is not in order is bad so.
pub record FirstBad (reading : RunFile → FileReading) (files : List RunFile) (bad : BadFile) : Type 0 where
  pub before : List RunFile
  pub file : RunFile
  pub after : List RunFile
  pub are : files ≡ before ++ file ∷ after
  pub good : AreInOrder reading before
  pub is : IsBad file (reading file) bad

-- How reading files ends: all are in order, or the first that is not is bad so.
abbrev pub FilesEnd : (RunFile → FileReading) → List RunFile → Option BadFile → Type 0
FilesEnd reading files None = AreInOrder reading files
FilesEnd reading files (Some bad) = FirstBad reading files bad
