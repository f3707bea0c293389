-- The texts of a cube that a session knows, by dimension, and when it is right about their numbers.
-- Source: Cubrick (VLDB 2016), dictionary encoding of text dimensions; what is known by own calls is this project's own.
use Rattle.std.specs.Prelude.{◌≡◌, ℕ, ◌<◌, List, [], get_or, set, Option, Some, None}
use Rattle.cube_language.specs.declared.decl.DimDecl.{DimDecl}
use Rattle.known_names.specs.KnownTexts.{code_of_known, with_text}
use Rattle.row_encoding.specs.FinalCodes.{dim_at}
use Rattle.core_program.specs.CoreFits.{CoreEntry}
use Rattle.known_cubes.specs.KnownNames.{IsToldOfName}

-- The known texts of each dimension, each with its number.
abbrev pub TextsByDim : Type 0
TextsByDim = List (List (List ℕ × ℕ))

-- The number of a text in a dimension, where it is known.
abbrev pub number_known : TextsByDim → ℕ → List ℕ → Option ℕ
number_known known dim text = code_of_known (get_or known dim []) text

-- With the number of one text more, where there is one.
abbrev pub with_number : TextsByDim → ℕ → List ℕ → Option ℕ → TextsByDim
with_number known dim text None = known
with_number known dim text (Some n) = set known dim (with_text (get_or known dim []) text n)

-- One of a session's own calls told it that a name of the dimension has the number.
pub record HasToldNumber (own : List CoreEntry) (place dim number : ℕ) : Type 0 where
  pub name : List ℕ
  pub told : IsToldOfName own place dim name number

-- It was told that this text has the number, which is a coordinate of the dimension.
pub record IsNumberTold (own : List CoreEntry) (place : ℕ) (dims : List DimDecl) (dim : ℕ) (text : List ℕ) (number : ℕ)
    : Type 0 where
  pub told : IsToldOfName own place dim text number
  pub below : number < (dim_at dims dim).cardinality

-- So it was of each text that it knows of the cube at a place.
abbrev pub AreNumbersTold : List CoreEntry → ℕ → List DimDecl → TextsByDim → Type 0
AreNumbersTold own place dims known = (dim : ℕ) (text : List ℕ) (number : ℕ)
    → number_known known dim text ≡ Some number → IsNumberTold own place dims dim text number
