use Rattle.std.proofs.Common.{[], length, sym, ap, subst, arith}
use Rattle.cube_values.specs.declared.query.BoundQuery.{BoundQuery}
use Rattle.agg_fold.specs.Totals.{AreToldOf}
use Rattle.query_cases.specs.TwoRows.{three_and_five}
use Rattle.query_cases.proofs.WorkedRows.{two_told}
use Rattle.query_cases.proofs.folds.two_rows.Goals as goal

pub add_group-requires-clause-wide : goal.add_group-requires-clause-wide
add_group-requires-clause-wide c = ap (λ (q : BoundQuery). length q.group) (sym c.requires)

pub add_group-requires-clause-room : goal.add_group-requires-clause-room
add_group-requires-clause-room c = ([], c.new-partial.ensures c.args.query.now, omega arith)

pub add_group-requires-clause-some : goal.add_group-requires-clause-some
add_group-requires-clause-some c = (three_and_five, subst (λ (q : BoundQuery). AreToldOf q [] _ three_and_five) (sym c.requires) two_told)

pub returns : goal.returns
returns c = c.in_ok-add_group.ensures.ok three_and_five (subst (λ (q : BoundQuery). AreToldOf q [] _ three_and_five) (sym c.requires) two_told) [] (c.new-partial.ensures c.args.query.now)
