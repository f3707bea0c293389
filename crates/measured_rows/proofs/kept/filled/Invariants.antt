use Rattle.std.proofs.Common.{◌≡◌, ◌+◌, ◌≤◌, length}
use Rattle.measured_rows.specs.Columns.{one_layout}
use Rattle.measured_rows.proofs.kept.filled.Given as goal

abbrev pub invariant-rows : goal.invariant-rows
invariant-rows l = record {
  layout : l.columns.layout ≡ one_layout;
  count : length l.columns.rows ≡ l._row;
  room : l.items ≤ l.columns.spare + l._row;
}
