use Rattle.round_reading.proofs.CubesLeft.{one_storable, all_storable}
use Rattle.round_reading.proofs.reading.are_storable.Goals as goal

pub cubes-preserved : goal.cubes-preserved
cubes-preserved c =
    one_storable c.args.cubes.now c.cubes.cube-index c.cube-item.result c.cubes-test.true c.cube-item.is c.decl.ensures.storable c.cubes.invariant

pub returns : goal.returns
returns c = all_storable c.args.cubes.now c.cubes.cube-index c.cubes-test.false c.cubes.invariant
