-- What a stored declaration keeps beside it.
use Rattle.std.specs.Prelude.{◌≡◌, length, map}
use Rattle.cube_values.specs.declared.shape.CubeShape.{CubeShape}
use Rattle.cube_values.specs.Shapes.{IsSoundCube}
use Rattle.cube_language.specs.declared.decl.Decl.{Decl}
use Rattle.cube_language.specs.Cubes.{IsStorable, shape_of}

-- The shape of a cube, which of its dimensions have texts, and its number of metrics.
abbrev pub cube_of : Decl → CubeShape
cube_of d = record { shape = shape_of d; texts = map (λ dim. dim.text) d.dims; metrics = length d.metrics }

-- A declaration that can be stored, beside its cube.
pub record IsSchema (decl : Decl) (cube : CubeShape) : Type 0 where
  pub storable : IsStorable decl
  pub same : cube ≡ cube_of decl
  pub sound : IsSoundCube cube
