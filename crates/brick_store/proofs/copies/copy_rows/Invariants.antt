use Rattle.std.proofs.Common.{◌≡◌, ◌+◌, ◌-◌, ◌≤◌, ◌++◌, length, map, vec_len}
use Rattle.cube_values.specs.Batches.{rows_between}
use Rattle.brick_store.specs.Whole.{row_with_coords}
use Rattle.brick_store.proofs.copies.copy_rows.Given as goal

abbrev pub invariant-rows : goal.invariant-rows
invariant-rows l = record {
  rows : l.batch.rows ≡ l.initial.batch.rows ++ rows_between l.first l.row (map (row_with_coords l.starts) l.columns.rows);
  room : length l.batch.rows + (l.end - l.row) ≤ l.batch.room;
  dims : l.batch.dims ≡ length l.starts;
  width : l.batch.width ≡ l.columns.layout.metrics;
  coords : vec_len l.coords ≡ length l.starts;
  metrics : vec_len l.metrics ≡ l.columns.layout.metrics;
}
