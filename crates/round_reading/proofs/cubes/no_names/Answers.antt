use Rattle.std.proofs.Common.{arith}
use Rattle.round_reading.proofs.CubesLeft.{names_none}
use Rattle.round_reading.proofs.cubes.no_names.Goals as goal

pub returns : goal.returns
returns c = names_none c.args.cube.now c.dims.counter c.dims.lists (omega arith) c.dims.invariant
