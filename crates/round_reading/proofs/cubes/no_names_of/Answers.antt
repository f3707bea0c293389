use Rattle.round_reading.proofs.CubesLeft.{named_upto}
use Rattle.round_reading.proofs.cubes.no_names_of.Goals as goal

pub returns-clause-dims : goal.returns-clause-dims
returns-clause-dims c = named_upto c.args.cubes.now c.cubes.names c.cubes.cube-index c.cubes-test.false c.cubes.invariant
