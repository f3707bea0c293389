use Rattle.std.specs.Int.{w128}
use Rattle.std.proofs.lemmas.Int.{to_z-of_z}
use Rattle.cube_values.proofs.Quotients.{average_is}
use Rattle.cube_values.proofs.quotient.average.Goals as goal

pub returns : goal.returns
returns c =
    rw (c.is_below_zero-neg.ensures, c.unsigned_abs-size.ensures.value, to_z-of_z w128 c.args.sum c.ranges.sum)
    (average_is c.args.sum c.args.count c.requires)
