use Rattle.std.proofs.Common.{[], length-append, arith}
use Rattle.cube_values.specs.declared.row.CodedRow.{CodedRow}
use Rattle.measured_rows.proofs.groups.folded.Goals as goal

pub items-init : goal.items-init
items-init c = ([], c.new-partial.ensures c.args.query.now, omega arith)

pub items-preserved : goal.items-preserved
items-preserved c =
    let (rows, s, n) = c.items.invariant in
    (_, c.in_ok-add_row.ensures.ok rows s, omega (arith, length-append {A = CodedRow}, n))
