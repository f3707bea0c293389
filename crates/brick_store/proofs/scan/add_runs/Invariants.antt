use Rattle.std.proofs.Common.{◌≡◌, ◌-◌, ◌≤◌, length, take}
use Rattle.std.specs.List.{items_where_true}
use Rattle.brick_store.specs.Cells.{cell_count, HoldRows}
use Rattle.brick_store.proofs.scan.add_runs.Given as goal

abbrev pub invariant-runs : goal.invariant-runs
invariant-runs l = record {
  within : l.at ≤ length l.bits.bits;
  held : HoldRows l.columns.layout.ranges l.query (cell_count l.columns.layout.ranges l.query.group) (items_where_true (take l.at l.bits.bits) (take l.at l.columns.rows)) l.dense;
  numbers : length l.numbers ≡ length l.initial.numbers;
  offsets : length l.offsets ≡ length l.initial.numbers;
}

abbrev pub decreases-runs : goal.decreases-runs
decreases-runs l = length l.bits.bits - l.at
