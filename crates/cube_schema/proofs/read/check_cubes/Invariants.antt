use Rattle.std.proofs.Common.{◌≡◌, take, drop}
use Rattle.cube_schema.specs.Outcomes.{begun_decls, unstorable_in}
use Rattle.cube_schema.proofs.read.check_cubes.Given as goal

abbrev pub invariant-cubes : goal.invariant-cubes
invariant-cubes l = record {
  stored : l.schemas.items ≡ begun_decls (take l.cube-index l.cubes);
  storable : unstorable_in (begun_decls (drop l.cube-index l.cubes)) ≡ unstorable_in (begun_decls l.cubes);
}
