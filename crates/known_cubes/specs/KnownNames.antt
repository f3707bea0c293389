-- What a client knows of a name whose number it was told.
-- Source: Cubrick (VLDB 2016), dictionary encoding of text dimensions.
use Rattle.std.specs.Prelude.{◌≡◌, ℕ, ◌<◌, List, Some, Contains}
use Rattle.cube_values.specs.declared.shape.CubeShape.{CubeShape}
use Rattle.names_dict.specs.declared.code.Code.{Code}
use Rattle.core_cells.specs.declared.names.NamesAnswer.TheVariants as told
use Rattle.core_cells.specs.declared.names.NamesCall.TheVariants as names
use Rattle.core_program.specs.Knowing.{Claim}
use Rattle.core_events.specs.Clients.{number_by_code, state_from_calls}
use Rattle.core_program.specs.CoreFits.{CoreEntry}
use Rattle.cube_core.specs.declared.cell.CoreAnswer.{CoreAnswer}
use Rattle.cube_core.specs.declared.cell.CoreAnswer.TheVariants as answer
use Rattle.cube_core.specs.declared.cell.CoreCall.{CoreCall}
use Rattle.cube_core.specs.declared.cell.CoreCall.TheVariants as call

-- The answer to a call tells the number of a name in a dimension: one that was encoded, or found.
pub data TellsOfName (cube dim : ℕ) (name : List ℕ) (number : ℕ) : CoreCall → CoreAnswer → Type 0 where
  by_encoding : (shape : CubeShape) (code : Code) → number_by_code code ≡ Some number
      → TellsOfName cube dim name number (call.Names (names.Encode cube dim shape name))
      (answer.Names (told.Coded code))
  by_finding : TellsOfName cube dim name number (call.Names (names.Find cube dim name))
      (answer.Names (told.Found (Some number)))

-- One of a client's own calls told it the number.
pub record IsToldOfName (own : List CoreEntry) (cube dim : ℕ) (name : List ℕ) (number : ℕ) : Type 0 where
  pub entry : CoreEntry
  pub among : Contains own entry
  pub tells : TellsOfName cube dim name number entry.call entry.answer

-- The number is one of those that its calls tell a client that there are in the dimension.
abbrev pub CallsTellNumber : ℕ → ℕ → ℕ → ℕ → Claim
CallsTellNumber client cube dim number o calls = number < (state_from_calls o client calls).names cube dim
