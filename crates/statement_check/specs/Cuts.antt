-- The first dimension of which conditions cut a range.
use Rattle.std.specs.Prelude.{◌<◌, ℕ, List, Option, Some, None, All}
use Rattle.cube_language.specs.Misfits.{AreAligned, CutsRange}
use Rattle.cube_language.specs.declared.decl.Decl.{Decl}
use Rattle.cube_language.specs.declared.decl.DimDecl.{DimDecl}
use Rattle.cube_language.specs.declared.statement.Cond.{Cond}

-- Each range of the dimensions has coordinates.
abbrev pub AreSolid : List DimDecl → Type 0
AreSolid dims = All (λ dim. 0 < dim.range) dims

-- The name is that of the first dimension of which the conditions cut a range, or there is none.
abbrev pub IsFirstCut : Decl → List Cond → Option (List ℕ) → Type 0
IsFirstCut d conds None = All (AreAligned conds) d.dims
IsFirstCut d conds (Some name) = CutsRange d conds name
