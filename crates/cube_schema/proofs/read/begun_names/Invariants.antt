use Rattle.std.proofs.Common.{◌≡◌, take}
use Rattle.cube_schema.specs.Outcomes as outcomes
use Rattle.cube_schema.specs.Repeats.{names_lent}
use Rattle.cube_schema.proofs.read.begun_names.Given as goal

abbrev pub invariant-cubes : goal.invariant-cubes
invariant-cubes l = names_lent l.names.items ≡ outcomes.begun_names (take l.cube-index l.cubes)
