-- The files of a run of scripts, what reading them gives it, and how reading them ends.
-- Source: this project's own.
use Rattle.std.specs.Prelude.{◌≡◌, ℕ, ◌+◌, List, [], ◌∷◌, ◌++◌, Option, Some, Result, Ok, Err}
use Rattle.std.specs.Global.{Vec}
use Rattle.std.specs.List.{AllByRecursion, AllZip}
use Rattle.cube_language.specs.CubesText.{Declares}
use Rattle.cube_language.specs.Pieces.{IsScript}
use Rattle.cube_language.specs.declared.decl.Decl.{Decl}
use Rattle.cube_language.specs.declared.piece.Piece.{Piece}
use Rattle.cube_values.specs.declared.call_error.CallError.{CallError}
use Rattle.cube_values.specs.declared.call_error.CallError.TheVariants.{Fault, NoMemory}
use Rattle.outside.specs.Files.{content_of}
use Rattle.outside.specs.Given.{Given, given_by, whole}
use Rattle.outside.specs.ShelfCalls.{ShelfCall, WhereKnown}
use Rattle.run_files.specs.Readings.{IsToldAs, ReadInTurn}
use Rattle.run_files.specs.RunFiles.{AreInOrder, CubesFile, FileReading, FirstBad, Gives, RunFile, ScriptFile, file_limit, file_name}
use Rattle.run_files.specs.declared.bad_file.BadFile.{BadFile}
use Rattle.run_inputs.specs.declared.inputs.RunInput.{RunInput}
use Rattle.script_sentences.specs.Sentences.{SaysInTurn}
use Rattle.script_sentences.specs.declared.said.Said.{Said}

-- The scripts by their names, numbered from one on: each is that of a session.
abbrev pub script_files : ℕ → List (List ℕ) → List RunFile
script_files number [] = []
script_files number (name ∷ names) = ScriptFile number name ∷ script_files (number + 1) names

-- The files in the order in which they are read: the cubes file, then the scripts.
abbrev pub files_of_run : List ℕ → List (List ℕ) → List RunFile
files_of_run cubes_name names = CubesFile cubes_name ∷ script_files 1 names

-- ---- what reading them gives

-- A cubes file is in order, and declares these cubes.
pub record GivesCubes (reading : FileReading) (cubes : List Decl) : Type 0 where
  pub text : List ℕ
  pub is : reading ≡ Gives (whole text)
  pub declares : Declares text cubes

-- A script is in order, and its texts say this, one after the other.
pub record GivesSentences (reading : FileReading) (said : List Said) : Type 0 where
  pub text : List ℕ
  pub is : reading ≡ Gives (whole text)
  pub pieces : List Piece
  pub in_order : IsScript text pieces
  pub says : SaysInTurn text pieces said

-- The same of what a script gives.
abbrev pub SaysGiven : Vec Said → Given → Type 0
SaysGiven said given = GivesSentences (Gives given) said.items

-- What came of the texts of a script.
abbrev pub ShowsScriptSaid : List ℕ → List Piece → Result (Vec Said) (CallError BadFile) → Type 0
ShowsScriptSaid text pieces (Ok said) = SaysInTurn text pieces said.items
ShowsScriptSaid text pieces (Err (Fault bad)) = ⊥
ShowsScriptSaid text pieces (Err NoMemory) = Unit {0}

-- The scripts of these names say these, each in its place.
abbrev pub GiveScripts : List (List ℕ) → (RunFile → FileReading) → Vec (Vec Said) → Type 0
GiveScripts names reading scripts =
    AllZip (λ file said. GivesSentences (reading file) said.items) (script_files 1 names) scripts.items

-- They give this input of a run over these cubes.
abbrev pub GiveOverCubes : List Decl → List (List ℕ) → (RunFile → FileReading) → RunInput → Type 0
GiveOverCubes cubes names reading input = (input.cubes.items ≡ cubes) × GiveScripts names reading input.scripts

-- The cubes file and the scripts of these names give this input.
pub record GiveRunInput (cubes_name : List ℕ) (names : List (List ℕ)) (reading : RunFile → FileReading)
    (input : RunInput) : Type 0 where
  pub cubes : GivesCubes (reading (CubesFile cubes_name)) input.cubes.items
  pub scripts : GiveScripts names reading input.scripts

-- ---- how reading them ends

-- Files were read one after the other: what reading each comes to is as the shelf tells it, and came by these calls.
pub record AreReadInTurn (told : Option (List (List ℕ × List ℕ))) (calls new_calls : Option (List ShelfCall))
    (reading : RunFile → FileReading) (files : List RunFile) : Type 0 where
  pub as_told : AllByRecursion (λ file. IsToldAs told file (reading file)) files
  pub by : WhereKnown (ReadInTurn reading files) calls new_calls

-- All the files were read, and give this.
pub record ReadsAll {T : Type 0} (gives : (RunFile → FileReading) → T → Type 0)
    (told : Option (List (List ℕ × List ℕ))) (calls new_calls : Option (List ShelfCall)) (files : List RunFile)
    (value : T) : Type 0 where
  pub reading : RunFile → FileReading
  pub read : AreReadInTurn told calls new_calls reading files
  pub given : gives reading value

-- The files were read up to the first that is bad, and none after it.
pub record StopsAtBad (told : Option (List (List ℕ × List ℕ))) (calls new_calls : Option (List ShelfCall))
    (files : List RunFile) (bad : BadFile) : Type 0 where
  pub reading : RunFile → FileReading
  pub first : FirstBad reading files bad
  pub read : AreReadInTurn told calls new_calls reading (first.before ++ first.file ∷ [])

-- The files were all read and give what is answered, or one is bad, and the first that is ends the reading. Where
-- memory ran out the calls may be any.
abbrev pub ReadingEnds :
    {T : Type 0} → ((RunFile → FileReading) → T → Type 0) → Option (List (List ℕ × List ℕ)) → Option (List ShelfCall)
    → Option (List ShelfCall) → List RunFile → Result T (CallError BadFile) → Type 0
ReadingEnds gives told calls new_calls files (Ok value) = ReadsAll gives told calls new_calls files value
ReadingEnds gives told calls new_calls files (Err (Fault bad)) = StopsAtBad told calls new_calls files bad
ReadingEnds gives told calls new_calls files (Err NoMemory) = WhereKnown (λ past now. Unit {0}) calls new_calls

-- ---- files that are in order

-- What reading a file comes to by what a shelf tells.
abbrev pub told_reading : List (List ℕ × List ℕ) → RunFile → FileReading
told_reading contents file = Gives (given_by (file_limit file) (content_of contents (file_name file)))

-- The shelf tells its files, and by what it tells these are in order.
pub record AreToldInOrder (told : Option (List (List ℕ × List ℕ))) (files : List RunFile) : Type 0 where
  pub contents : List (List ℕ × List ℕ)
  pub tells : told ≡ Some contents
  pub in_order : AreInOrder (told_reading contents) files
