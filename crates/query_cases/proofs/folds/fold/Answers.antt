use Rattle.std.proofs.Common.{[], length-append, arith}
use Rattle.cube_values.specs.declared.row.CodedRow.{CodedRow}
use Rattle.query_cases.proofs.folds.fold.Goals as goal

pub rows-init : goal.rows-init
rows-init c = ([], c.new-partial.ensures c.args.query.now, omega arith)

pub rows-preserved : goal.rows-preserved
rows-preserved c =
    let (rows, s, n) = c.rows.invariant in
    (_, c.in_ok-add_row.ensures.ok rows s, omega (arith, length-append {A = CodedRow}))
