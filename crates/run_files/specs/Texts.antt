-- What the text of a file holds for the run: its cubes, or its statements.
-- Source: this project's own.
use Rattle.std.specs.Prelude.{◌≡◌, ℕ, List, Result, Ok, Err}
use Rattle.std.specs.Global.{Vec}
use Rattle.cube_language.specs.declared.decl.Decl.{Decl}
use Rattle.cube_language.specs.CubesText.{Declares, HasCubesFault}
use Rattle.cube_language.specs.Pieces.{IsScript, HasScriptFault}
use Rattle.cube_values.specs.declared.call_error.CallError.{CallError}
use Rattle.cube_values.specs.declared.call_error.CallError.TheVariants.{Fault, NoMemory}
use Rattle.outside.specs.Given.{Given, whole}
use Rattle.sql_words.specs.Texts.{AreTextsAt}
use Rattle.run_files.specs.declared.bad_file.BadFile.{BadFile}
use Rattle.run_files.specs.declared.bad_file.BadFile.TheVariants.{Cubes, Script as BadScript}
use Rattle.run_files.specs.declared.script.Script.{Script}

-- A file gives a text that declares these cubes.
abbrev pub DeclaresGiven : Vec Decl → Given → Type 0
DeclaresGiven cubes given = (text : List ℕ) × (given ≡ whole text) × Declares text cubes.items

-- The statements of a script stand in it at these places.
pub record HasStatements (bytes : List ℕ) (script : Script) : Type 0 where
  pub bytes_are : script.bytes.items ≡ bytes
  pub statements : IsScript bytes script.pieces
  pub texts : AreTextsAt bytes script.pieces

-- A file gives the text of a script with these statements.
abbrev pub HoldsScript : Script → Given → Type 0
HoldsScript script given = (text : List ℕ) × (given ≡ whole text) × HasStatements text script

-- What came of the text of a cubes file, and of a script.
abbrev pub ShowsCubesText : List ℕ → Result (Vec Decl) (CallError BadFile) → Type 0
ShowsCubesText text (Ok cubes) = Declares text cubes.items
ShowsCubesText text (Err (Fault (Cubes fault))) = HasCubesFault text fault
ShowsCubesText text (Err (Fault bad)) = ⊥
ShowsCubesText text (Err NoMemory) = Unit {0}

abbrev pub ShowsScriptText : ℕ → List ℕ → Result Script (CallError BadFile) → Type 0
ShowsScriptText number text (Ok script) = HasStatements text script
ShowsScriptText number text (Err (Fault (BadScript script fault))) = (script ≡ number) × HasScriptFault text fault
ShowsScriptText number text (Err (Fault bad)) = ⊥
ShowsScriptText number text (Err NoMemory) = Unit {0}
