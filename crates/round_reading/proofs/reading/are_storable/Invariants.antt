use Rattle.std.proofs.Common.{take, All}
use Rattle.cube_language.specs.Cubes.{IsStorable}
use Rattle.round_reading.proofs.reading.are_storable.Given as goal

abbrev pub invariant-cubes : goal.invariant-cubes
invariant-cubes l = All IsStorable (take l.cube-index l.cubes)
