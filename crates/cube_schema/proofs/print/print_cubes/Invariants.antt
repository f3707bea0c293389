use Rattle.std.proofs.Common.{◌≡◌, take}
use Rattle.cube_language.specs.Cubes.{cubes_text}
use Rattle.cube_schema.proofs.print.print_cubes.Given as goal

abbrev pub invariant-cubes : goal.invariant-cubes
invariant-cubes l = l.out.items ≡ cubes_text (take l.cube-index l.cubes)
