use Rattle.std.proofs.Common.{arith}
use Rattle.query_cases.specs.TwoRows.{three_and_five}
use Rattle.query_cases.proofs.folds.four_rows.Goals as goal

pub merge-requires-clause-room : goal.merge-requires-clause-room
merge-requires-clause-room c = (three_and_five, c.in_ok-total.ensures c.args.query.now three_and_five c.requires, omega (arith, c.requires.count))

pub merge-requires-clause-other : goal.merge-requires-clause-other
merge-requires-clause-other c = (three_and_five, c.requires, omega arith)

pub returns : goal.returns
returns c = c.in_ok-merge.ensures.ok three_and_five c.requires three_and_five (c.in_ok-total.ensures c.args.query.now three_and_five c.requires)
