use Rattle.std.proofs.Common.{◌≡◌, take, length}
use Rattle.brick_columns.specs.Rows.{row_at}
use Rattle.brick_store.proofs.rows.read_metrics.Given as goal

abbrev pub invariant-loop-m : goal.invariant-loop-m
invariant-loop-m l = record {
  front : take l.m l.metrics ≡ take l.m (row_at l.columns.rows l.row).metrics;
  long : length l.metrics ≡ l.columns.layout.metrics;
}
