use Rattle.std.proofs.Common.{arith}
use Rattle.query_cases.specs.TwoRows.{three_and_five}
use Rattle.query_cases.proofs.folds.over_two.Goals as goal

pub finish-requires : goal.finish-requires
finish-requires c = (three_and_five, c.requires, omega (arith, c.requires.few))
