use Rattle.std.proofs.Common.{◌≡◌}
use Rattle.column_cases.proofs.packed.packed_of.Given as goal

abbrev pub invariant-rows : goal.invariant-rows
invariant-rows g l = l.packed.widths ≡ l.initial.packed.widths
