-- The names that are kept of each dimension of cubes.
-- Source: Cubrick (VLDB 2016), dictionaries of dimensions; how long a name may be is this project's own.
use Rattle.std.specs.Prelude.{◌≡◌, ℕ, ◌≤◌, List, [], length, All, IsUtf8, MatchBool, None}
use Rattle.std.specs.List.{AllZip}
use Rattle.cube_language.specs.declared.bad_row.TheConstants.{TEXT_BYTES}
use Rattle.cube_language.specs.declared.decl.DimDecl.{DimDecl}
use Rattle.cube_language.specs.declared.decl.Decl.{Decl}
use Rattle.cube_language.specs.Cubes.{first_repeated}
use Rattle.cube_rounds.specs.Demands.{DimNames}

-- The names of a dimension of so many coordinates: short texts, none of them twice, and no more than these.
pub record AreKeptNames (cardinality : ℕ) (names : List (List ℕ)) : Type 0 where
  pub texts : All IsUtf8 names
  pub short : All (λ name. length name ≤ TEXT_BYTES) names
  pub differ : first_repeated names ≡ None
  pub few : length names ≤ cardinality

-- A dimension of numbers has no names.
abbrev pub FitKeptNames : DimDecl → List (List ℕ) → Type 0
FitKeptNames dim names = MatchBool dim.text (AreKeptNames dim.cardinality names) (names ≡ [])

-- Each dimension of a cube has a list of names that fits it.
abbrev pub HasKeptNames : Decl → DimNames → Type 0
HasKeptNames cube lists = AllZip FitKeptNames cube.dims lists

-- The names of cubes are those that rounds may give them.
abbrev pub HaveKeptNames : List Decl → List DimNames → Type 0
HaveKeptNames cubes names = AllZip HasKeptNames cubes names
