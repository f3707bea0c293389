-- The ranges of a cube that can be stored have coordinates.
use Rattle.std.proofs.Common.{◌≡◌, ◌<◌, false, get_or, arith}
use Rattle.std.proofs.lemmas.Bool.Decides.{nat_tests}
use Rattle.cube_language.specs.Cubes.{IsStorable, has_zero}
use Rattle.cube_language.specs.declared.decl.Decl.{Decl}
use Rattle.cube_language.specs.declared.decl.DimDecl.{DimDecl}
use Rattle.cube_schema.proofs.Bricks.{none_found_at}
use Rattle.cube_schema.proofs.Sound.{parts_of}
use Rattle.statement_check.specs.Cuts.{AreSolid}

solid : (dim : DimDecl) → has_zero dim ≡ false → 0 < dim.range
solid dim none = grind (arith, nat_tests)

pub solid_dims : (d : Decl) → IsStorable d → AreSolid d.dims
solid_dims d storable k e lt =
    solid (get_or d.dims k e) (none_found_at has_zero d.dims k e (parts_of d storable).coords lt)
