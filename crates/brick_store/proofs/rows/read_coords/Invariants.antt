use Rattle.std.proofs.Common.{◌≡◌, take, length}
use Rattle.brick_columns.specs.Rows.{row_at}
use Rattle.brick_store.specs.Whole.{coords_at_offsets}
use Rattle.brick_store.proofs.rows.read_coords.Given as goal

abbrev pub invariant-dims : goal.invariant-dims
invariant-dims l = record {
  front : take l.dim l.coords ≡ take l.dim (coords_at_offsets l.starts (row_at l.columns.rows l.row).offsets);
  long : length l.coords ≡ length l.starts;
}
