use Rattle.std.proofs.Common.{◌≡◌}
use Rattle.column_cases.proofs.making.columns_of.Given as goal

abbrev pub invariant-rows : goal.invariant-rows
invariant-rows g l = l.columns.layout ≡ l.initial.columns.layout
