use Rattle.std.proofs.Common.{arith}
use Rattle.measures.specs.Loads.{is_row}
use Rattle.measures.proofs.RecordCounts.{no_row_left, none_found}
use Rattle.measures.proofs.loads.count_rows.Goals as goal

pub returns : goal.returns
returns c =
    let none = none_found _ _ c.in_default.not-Some c.in_ok-is_row.ensures.none in
    let zero = no_row_left (is_row c.rows.loader.decl) c.rows.loader.left none in
    omega (arith, zero, c.rows.invariant.few, c.rows.invariant.sum)
