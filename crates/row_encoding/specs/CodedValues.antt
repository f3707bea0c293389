-- Which coordinates stand for the values of a row's dimensions, by the names that the cube has in the end.
-- Source: Cubrick (VLDB 2016), dictionary encoding of text dimensions.
use Rattle.std.specs.Prelude.{◌≡◌, ℕ, ◌<◌, true, false, List, [], length, get_or, slice_get, pos, Option, Some, None}
use Rattle.std.specs.List.{AllZip}
use Rattle.cube_values.specs.declared.value.Value.{Value}
use Rattle.cube_values.specs.declared.value.Value.TheVariants.{Text, Int}
use Rattle.cube_language.specs.RowFaults.{dim_reason}
use Rattle.cube_language.specs.declared.decl.Decl.{Decl}
use Rattle.cube_language.specs.declared.decl.DimDecl.{DimDecl}
use Rattle.cube_run.specs.LoadedRows.{text_without_place}
use Rattle.agg_fold.specs.Coded.{values_for}
use Rattle.condition_spans.specs.Codes.{texts_at}
use Rattle.row_encoding.specs.FinalCodes.{dim_at, IsFinalNumber}

-- Each value fits its dimension.
abbrev pub FitDims : List DimDecl → List Value → Type 0
FitDims dims values = AllZip (λ dim value. dim_reason dim value ≡ None) dims values

-- Values have this text at this place.
abbrev pub HaveText : List Value → ℕ → List ℕ → Type 0
HaveText values place text = slice_get values place ≡ Some (Text text)

abbrev pub IsTextValue : Value → Type 0
IsTextValue (Text text) = Unit {0}
IsTextValue (Int n) = ⊥

-- A value is this text of its dimension.
abbrev pub IsItsText : ℕ → Value → ℕ → List ℕ → Type 0
IsItsText dim value place text = (place ≡ dim) × (value ≡ Text text)

-- There is a text at this place.
abbrev pub HasTextAt : List Value → ℕ → Type 0
HasTextAt values place = (text : List ℕ) × HaveText values place text

-- No dimension of numbers has names.
abbrev pub NumbersHaveNoNames : Decl → List (List (List ℕ)) → Type 0
NumbersHaveNoNames d lists =
    (place : ℕ) → place < length d.dims → (dim_at d.dims place).text ≡ false → texts_at lists place ≡ []

-- The coordinate of a value of a dimension: a number itself, and the number of a text in the end. Only a text may have
-- none.
abbrev pub IsFinalCoord : DimDecl → List (List ℕ) → Value → Option ℕ → Type 0
IsFinalCoord dim names (Text text) coord = IsFinalNumber dim names text coord
IsFinalCoord dim names (Int n) (Some coord) = n ≡ pos coord
IsFinalCoord dim names (Int n) None = ⊥

-- Each coordinate of a text is the place of a name.
abbrev pub HaveNames : Decl → List (List (List ℕ)) → List ℕ → Type 0
HaveNames d lists coords =
    (place : ℕ) → (dim_at d.dims place).text ≡ true → get_or coords place 0 < length (texts_at lists place)

-- Coordinates stand for the values of a row's dimensions: each text has a place, which its coordinate names.
pub record StandFor (d : Decl) (lists : List (List (List ℕ))) (row : List Value) (coords : List ℕ) : Type 0 where
  pub values : NumbersHaveNoNames d lists → values_for lists coords ≡ row
  pub names : HaveNames d lists coords
  pub places : text_without_place d.dims lists row ≡ None

-- The text of a row's dimension is its first one that finds no place.
pub record FindsNoPlace (d : Decl) (lists : List (List (List ℕ))) (row : List Value) (dim : ℕ) : Type 0 where
  pub text : List ℕ
  pub here : HaveText row dim text
  pub first : text_without_place d.dims lists row ≡ Some (record { column = (dim_at d.dims dim).name; text = text })

-- Coordinates stand for the values of a row's dimensions, or the text of this dimension finds no place.
abbrev pub AreCodedAs : Decl → List (List (List ℕ)) → List Value → List ℕ → Option ℕ → Type 0
AreCodedAs d lists row coords None = StandFor d lists row coords
AreCodedAs d lists row coords (Some dim) = FindsNoPlace d lists row dim
