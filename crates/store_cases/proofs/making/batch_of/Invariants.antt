use Rattle.std.proofs.Common.{◌≡◌}
use Rattle.store_cases.proofs.making.batch_of.Given as goal

abbrev pub invariant-rows : goal.invariant-rows
invariant-rows g l = l.batch.width ≡ 1
