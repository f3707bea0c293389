use Rattle.std.proofs.Common.{◌≡◌, ◌-◌, ◌<◌, ◌≤◌, length, drop, get_or, All}
use Rattle.brick_store.specs.Cells.{cell_count}
use Rattle.brick_store.proofs.cells.cell_count.Given as goal

abbrev pub invariant-dims : goal.invariant-dims
invariant-dims l = record {
  value : l.cells ≡ cell_count l.columns.layout.ranges (drop (length l.group - l.done) l.group);
  few : l.cells ≤ l.most;
  some : All (λ dim. 0 < get_or l.columns.layout.ranges dim 0) (drop (length l.group - l.done) l.group);
}
