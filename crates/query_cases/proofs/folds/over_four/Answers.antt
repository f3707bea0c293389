use Rattle.std.proofs.Common.{◌++◌, arith}
use Rattle.query_cases.specs.TwoRows.{three_and_five}
use Rattle.query_cases.proofs.folds.over_four.Goals as goal

pub finish-requires : goal.finish-requires
finish-requires c =
    let s = c.in_ok-total.ensures in
    (three_and_five ++ three_and_five, s, omega (arith, s.few))
