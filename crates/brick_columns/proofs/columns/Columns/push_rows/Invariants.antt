use Rattle.std.proofs.Common.{◌≡◌, ◌+◌, ◌-◌, ◌++◌, map}
use Rattle.brick_columns.specs.Rows.{offset_row}
use Rattle.cube_values.specs.Batches.{rows_between}
use Rattle.brick_columns.proofs.columns.Columns.push_rows.Given as goal

abbrev pub invariant-rows : goal.invariant-rows
invariant-rows l = record {
  layout : l.self.layout ≡ l.initial.self.layout;
  rows : l.self.rows ≡ l.initial.self.rows ++ map (offset_row l.starts) (rows_between l.from l.i l.batch.rows);
  spare : l.self.spare + (l.i - l.from) ≡ l.initial.self.spare;
}
