-- Dimensions that have coordinates and ranges.
use Rattle.std.specs.Prelude.{◌≡◌, List, find, None}
use Rattle.cube_language.specs.declared.decl.DimDecl.{DimDecl}
use Rattle.cube_language.specs.Cubes.{has_zero}

-- No cardinality and no range is 0.
abbrev pub AreNotZero : List DimDecl → Type 0
AreNotZero dims = find has_zero dims ≡ None
