use Rattle.std.proofs.Common.{◌≡◌}
use Rattle.column_cases.proofs.rows.batch_of.Given as goal

abbrev pub invariant-rows : goal.invariant-rows
invariant-rows g l = record {
  dims : l.batch.dims ≡ 2;
  width : l.batch.width ≡ 1;
}
