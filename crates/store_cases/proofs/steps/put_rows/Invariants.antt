use Rattle.std.proofs.Common.{◌≡◌}
use Rattle.store_cases.proofs.steps.put_rows.Given as goal

abbrev pub invariant-rows : goal.invariant-rows
invariant-rows g l = l.batch.width ≡ 1
