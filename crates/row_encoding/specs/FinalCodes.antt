-- What dictionaries answer, judged by the names that they end with. Names are never taken back, but others may add
-- some at any time.
-- Source: Cubrick (VLDB 2016), dictionary encoding of text dimensions; the rest is this project's own.
use Rattle.std.specs.Prelude.{◌≡◌, ◌≢◌, ◌⊎◌, ℕ, true, false, List, [], get_or, slice_get, Option, Some, None}
use Rattle.names_dict.specs.declared.code.Code.{Code}
use Rattle.names_dict.specs.declared.code.Code.TheVariants.{Known, Added, Full}
use Rattle.cube_language.specs.declared.decl.Decl.{Decl}
use Rattle.cube_language.specs.declared.decl.DimDecl.{DimDecl}
use Rattle.cube_run.specs.LoadedRows.{has_no_place_for}
use Rattle.condition_spans.specs.Codes.{lists_at}

-- The dimension at a place. Past the last one there is one of numbers without coordinates.
abbrev pub dim_at : List DimDecl → ℕ → DimDecl
dim_at dims place = get_or dims place (record { name = []; text = false; cardinality = 0; range = 0 })

-- The number that a code gives to its text.
abbrev pub code_number : Code → Option ℕ
code_number (Known n) = Some n
code_number (Added n) = Some n
code_number Full = None

-- The number of a text among the names that its dictionary ends with, or there is none, since these are as many as
-- may be and lack the text.
abbrev pub IsFinalNumber : DimDecl → List (List ℕ) → List ℕ → Option ℕ → Type 0
IsFinalNumber dim names text (Some n) = slice_get names n ≡ Some text
IsFinalNumber dim names text None = has_no_place_for dim names text ≡ true

-- This holds of the names of the cube at a place, whatever names all dictionaries end with.
abbrev pub InTheEnd : (List (List (List (List ℕ))) → Type 0) → ℕ → (List (List (List ℕ)) → Type 0) → Type 0
InTheEnd may_end place Holds = (names : List (List (List (List ℕ)))) → may_end names → Holds (lists_at names place)

-- A text of a dimension is this one.
abbrev pub IsDimText : ℕ → List ℕ → ℕ → List ℕ → Type 0
IsDimText dim text k other = (k ≡ dim) × (other ≡ text)

-- Coordinates of texts are numbers that their dimensions have.
abbrev pub HaveNumbers : (ℕ → ℕ → Type 0) → List DimDecl → List ℕ → Type 0
HaveNumbers IsNumber dims coords =
    (dim number : ℕ) → (dim_at dims dim).text ≡ true → slice_get coords dim ≡ Some number → IsNumber dim number

-- What else stays from one state to another stays from a state to itself, and goes on. Numbers that were given stay so.
pub record CarriesOn {S : Type 0} (keeps : S → S → Type 0) (has_given : S → ℕ → ℕ → ℕ → Type 0) : Type 0 where
  pub itself : (now : S) → keeps now now
  pub goes_on : (old mid new : S) → keeps old mid → keeps mid new → keeps old new
  pub given : (old new : S) (place dim number : ℕ) → keeps old new → has_given old place dim number
      → has_given new place dim number

-- Dictionaries grow from one state to another, while texts of the cube at a place are given to them, of which the last
-- relation tells the dimensions.
pub record Grow {S : Type 0} (may_end : S → List (List (List (List ℕ))) → Type 0) (suits : S → ℕ → Decl → Type 0)
    (has_name : S → ℕ → ℕ → List ℕ → Type 0) (keeps : S → S → Type 0) (place : ℕ) (d : Decl)
    (IsGiven : ℕ → List ℕ → Type 0) (old new : S) : Type 0 where
  -- no name is taken back
  pub later : (names : List (List (List (List ℕ)))) → may_end new names → may_end old names
  pub here : suits new place d
  pub elsewhere : (p : ℕ) (other : Decl) → p ≢ place → suits old p other → suits new p other
  -- no other name comes
  pub names : (p k : ℕ) (text : List ℕ) → has_name new p k text → has_name old p k text ⊎ ((p ≡ place) × IsGiven k text)
  -- what else there is of them stays
  pub keeps_else : keeps old new
