-- The numbers of the texts that a DELETE compares with, by the names that the cube has in the end.
-- Source: Cubrick (VLDB 2016), dictionary encoding of text dimensions.
use Rattle.std.specs.Prelude.{◌≡◌, ◌⊎◌, ℕ, ◌≤◌, true, List, length, All, Contains}
use Rattle.std.specs.List.{IsDistinct}
use Rattle.std.specs.Str.{bytes_eq}
use Rattle.cube_values.specs.declared.operation.Condition.{Condition}
use Rattle.cube_values.specs.declared.value.Value.{Value}
use Rattle.cube_values.specs.declared.value.Value.TheVariants.{Text}
use Rattle.cube_language.specs.declared.bad_row.TheConstants.{TEXT_BYTES}
use Rattle.cube_language.specs.declared.decl.DimDecl.{DimDecl}
use Rattle.condition_spans.specs.CodedConditions.{values_of_test}
use Rattle.condition_spans.specs.Codes.{texts_at}
use Rattle.row_encoding.specs.FinalCodes.{dim_at, IsDimText}
use Rattle.row_encoding.specs.CodedValues.{IsTextValue}

-- Texts are among values only where the dimension has texts.
abbrev pub AreOfKind : DimDecl → List Value → Type 0
AreOfKind dim values = All (λ v. IsTextValue v → dim.text ≡ true) values

-- Conditions compare with texts only where the dimension has texts.
abbrev pub AskTheirKinds : List DimDecl → List Condition → Type 0
AskTheirKinds dims conditions = All (λ c. AreOfKind (dim_at dims c.place) (values_of_test c.test)) conditions

-- Each dimension has distinct names that are not too long.
pub record AreNames (lists : List (List (List ℕ))) : Type 0 where
  pub distinct : (place : ℕ) → IsDistinct bytes_eq (texts_at lists place)
  pub short : (place : ℕ) → All (λ name. length name ≤ TEXT_BYTES) (texts_at lists place)

-- A text that is not too long stands among the values that one of the conditions compares a dimension with.
pub record ComparesWith (conditions : List Condition) (dim : ℕ) (text : List ℕ) : Type 0 where
  pub condition : Condition
  pub one : Contains conditions condition
  pub here : condition.place ≡ dim
  pub compares : Contains (values_of_test condition.test) (Text text)
  pub short : length text ≤ TEXT_BYTES

-- A text stands among the names of a dimension, or these are as many as may be.
abbrev pub HasPlace : DimDecl → List (List ℕ) → List ℕ → Type 0
HasPlace dim names text = Contains names text ⊎ (dim.cardinality ≤ length names)

-- So it is of each text that conditions compare a dimension with, unless it is too long.
abbrev pub HavePlaces : List DimDecl → List (List (List ℕ)) → List Condition → Type 0
HavePlaces dims lists conditions =
    (dim : ℕ) (text : List ℕ) → ComparesWith conditions dim text → HasPlace (dim_at dims dim) (texts_at lists dim) text

-- So it is of each text among values.
abbrev pub HavePlacesAmong : DimDecl → List (List ℕ) → List Value → Type 0
HavePlacesAmong dim names values =
    (text : List ℕ) → Contains values (Text text) → length text ≤ TEXT_BYTES → HasPlace dim names text

-- So it is of a text that is not too long.
abbrev pub HasPlaceIfShort : DimDecl → List (List ℕ) → List ℕ → Type 0
HasPlaceIfShort dim names text = length text ≤ TEXT_BYTES → HasPlace dim names text

-- It is this text of a dimension, and not too long.
abbrev pub ShortTextOf : ℕ → List ℕ → ℕ → List ℕ → Type 0
ShortTextOf dim text place other = IsDimText dim text place other × (length text ≤ TEXT_BYTES)

-- It stands among values, for this dimension, and is not too long.
pub record ShortTextAmong (dim : ℕ) (values : List Value) (place : ℕ) (text : List ℕ) : Type 0 where
  pub here : place ≡ dim
  pub among : Contains values (Text text)
  pub short : length text ≤ TEXT_BYTES
