use Rattle.std.proofs.Common.{◌≡◌, ◌-◌, ◌<◌, ◌≤◌, length}
use Rattle.brick_store.specs.Cells.{cell_count, columns_between, HoldMore}
use Rattle.brick_store.proofs.dense.Dense.add_rows.Given as goal

abbrev pub invariant-chunks : goal.invariant-chunks
invariant-chunks l = record {
  after : l.from ≤ l.at;
  within : l.at ≤ l.to;
  held : HoldMore l.columns.layout.ranges l.query (cell_count l.columns.layout.ranges l.query.group) (columns_between l.from l.at l.columns.rows) l.initial.self l.self;
  some : 0 < length l.cells;
  as_long : length l.offsets ≡ length l.cells;
}

abbrev pub decreases-chunks : goal.decreases-chunks
decreases-chunks l = l.to - l.at
