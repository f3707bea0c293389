use Rattle.std.proofs.Common.{◌≡◌, length}
use Rattle.measured_rows.proofs.groups.FoldWork.prepared.Given as goal

abbrev pub invariant-rows : goal.invariant-rows
invariant-rows l = length l.rows.items ≡ l._row
