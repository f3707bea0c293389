-- What the writers of a round's parts ask for.
use Rattle.std.specs.Prelude.{◌≡◌, ◌<◌, ◌^◌, length, All}
use Rattle.cube_language.specs.declared.decl.Decl.{Decl}
use Rattle.cube_rounds.specs.declared.round.RoundCube.{RoundCube}
use Rattle.cube_rounds.specs.Demands.{DimNames}

-- Each name has a length of one byte.
abbrev pub AreShort : DimNames → Type 0
AreShort lists = All (λ names. All (λ name. length name < 2 ^ 8) names) lists

-- A list of short names for each dimension.
pub record HasNames (cube : Decl) (part : RoundCube) : Type 0 where
  pub dims : length part.names ≡ length cube.dims
  pub short : AreShort part.names
