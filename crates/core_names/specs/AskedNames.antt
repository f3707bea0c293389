-- The calls by which a session asks for the numbers of texts, among its own calls.
-- Source: this project's own.
use Rattle.std.specs.Prelude.{◌≡◌, ℕ, List, ◌++◌, Contains, Result, Ok, Err}
use Rattle.std.specs.List.{AllByRecursion}
use Rattle.cube_values.specs.declared.shape.CubeShape.{CubeShape}
use Rattle.names_dict.specs.declared.code.Code.{Code}
use Rattle.core_program.specs.ClientCalls.{names_entry}
use Rattle.core_cells.specs.declared.names.NamesAnswer.{NamesAnswer}
use Rattle.core_cells.specs.declared.names.NamesAnswer.TheVariants as told
use Rattle.core_cells.specs.declared.names.NamesCall.{NamesCall}
use Rattle.core_cells.specs.declared.names.NamesCall.TheVariants as names
use Rattle.core_program.specs.CoreFits.{CoreEntry}
use Rattle.cube_core.specs.declared.cell.CoreAnswer.TheVariants as answer
use Rattle.cube_core.specs.declared.cell.CoreCall.TheVariants as call

-- The names answer a code, or are out of memory.
abbrev pub coded_answer : {E : Type 0} → Result Code E → NamesAnswer
coded_answer (Ok code) = told.Coded code
coded_answer (Err e) = told.NoMemory

-- A caller's call for the code of a text, with what came of it.
abbrev pub encode_entry : {E : Type 0} → ℕ → ℕ → ℕ → CubeShape → List ℕ → Result Code E → CoreEntry
encode_entry caller place dim shape text came =
    names_entry caller (names.Encode place dim shape text) (coded_answer came)

-- A call of the caller's on the names.
pub record IsNamesEntry (caller : ℕ) (e : CoreEntry) : Type 0 where
  pub call : NamesCall
  pub said : NamesAnswer
  pub is : e ≡ names_entry caller call said

-- A caller's own calls go on by calls on the names alone.
pub record GoOnByNames (caller : ℕ) (own now : List CoreEntry) : Type 0 where
  pub added : List CoreEntry
  pub whole : now ≡ own ++ added
  pub only : AllByRecursion (IsNamesEntry caller) added

-- A call of the caller's that copies names.
pub record IsCopyEntry (caller : ℕ) (e : CoreEntry) : Type 0 where
  pub place : ℕ
  pub dim : ℕ
  pub from : ℕ
  pub said : NamesAnswer
  pub is : e ≡ names_entry caller (names.CopyFrom place dim from) said

-- Its own calls go on by calls that copy names alone.
pub record GoOnByCopies (caller : ℕ) (own now : List CoreEntry) : Type 0 where
  pub added : List CoreEntry
  pub whole : now ≡ own ++ added
  pub only : AllByRecursion (IsCopyEntry caller) added

-- One of the own calls asks for the code of a text in a dimension, and is told it.
pub record HasAskedFor (own : List CoreEntry) (place dim : ℕ) (text : List ℕ) : Type 0 where
  pub entry : CoreEntry
  pub among : Contains own entry
  pub shape : CubeShape
  pub code : Code
  pub asks : entry.call ≡ call.Names (names.Encode place dim shape text)
  pub told : entry.answer ≡ answer.Names (told.Coded code)
