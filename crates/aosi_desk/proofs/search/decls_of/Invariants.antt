use Rattle.std.proofs.Common.{◌≡◌, take, All}
use Rattle.cube_language.specs.Cubes.{IsStorable}
use Rattle.aosi_desk.proofs.search.decls_of.Given as goal

abbrev pub invariant-cubes : goal.invariant-cubes
invariant-cubes l = record { same : l.decls.items ≡ take l.cube-index l.cubes; storable : All IsStorable l.decls.items }
