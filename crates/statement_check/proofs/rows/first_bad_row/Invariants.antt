use Rattle.std.proofs.Common.{◌≡◌, ◌+◌, length}
use Rattle.cube_language.specs.RowFaults.{bad_row_from, first_bad_row}
use Rattle.statement_check.proofs.rows.first_bad_row.Given as goal

abbrev pub invariant-rows : goal.invariant-rows
invariant-rows l = record {
  same : bad_row_from l.row l.decl l.left ≡ first_bad_row l.decl l.rows;
  number : l.row + length l.left ≡ length l.rows + 1;
}

abbrev pub decreases-rows : goal.decreases-rows
decreases-rows l = length l.left
