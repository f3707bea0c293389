-- Which coded rows stand for the rows of an INSERT, by the names that the cube has in the end.
-- Source: Cubrick (VLDB 2016), dictionary encoding of text dimensions.
use Rattle.std.specs.Prelude.{◌≡◌, ℕ, List, map, Option, Some, None, All, Contains}
use Rattle.cube_values.specs.declared.row.CodedRow.{CodedRow}
use Rattle.cube_values.specs.declared.value.Value.{Value}
use Rattle.cube_language.specs.Cubes.{sizes_of}
use Rattle.cube_language.specs.declared.decl.Decl.{Decl}
use Rattle.cube_run.specs.LoadedRows.{first_without_place, row_of_values}
use Rattle.agg_fold.specs.Coded.{row_for}
use Rattle.brick_address.specs.Addresses.{AreCoords}
use Rattle.row_encoding.specs.CodedValues.{HaveNames, HaveText, NumbersHaveNoNames}
use Rattle.row_encoding.specs.FinalCodes.{HaveNumbers}

-- One of the rows has this text at this place.
pub record HaveTextIn (rows : List (List Value)) (place : ℕ) (text : List ℕ) : Type 0 where
  pub row : List Value
  pub one : Contains rows row
  pub here : HaveText row place text

-- The coordinates of a coded row are those of a cube.
abbrev pub HasCoords : Decl → CodedRow → Type 0
HasCoords d row = AreCoords (sizes_of d.dims) row.coords

-- The coordinates of its texts are numbers that the cube's dimensions have.
abbrev pub HasNumbers : (ℕ → ℕ → Type 0) → Decl → CodedRow → Type 0
HasNumbers IsNumber d row = HaveNumbers IsNumber d.dims row.coords

-- Coded rows stand for the rows of an INSERT, one for each, and each text has a place.
pub record RowsStandFor (d : Decl) (lists : List (List (List ℕ))) (given : List (List Value)) (coded : List CodedRow)
    : Type 0 where
  pub rows : NumbersHaveNoNames d lists → map (row_for lists) coded ≡ map (row_of_values d) given
  pub names : All (λ row. HaveNames d lists row.coords) coded
  pub places : first_without_place d lists given ≡ None

-- Coded rows stand for the rows of an INSERT, or this text is the first one that finds no place.
abbrev pub AreCodedRows : Decl → List (List (List ℕ)) → List (List Value) → List CodedRow → Option (List ℕ) → Type 0
AreCodedRows d lists given coded None = RowsStandFor d lists given coded
AreCodedRows d lists given coded (Some text) = first_without_place d lists given ≡ Some text
