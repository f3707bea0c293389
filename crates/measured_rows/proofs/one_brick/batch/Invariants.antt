use Rattle.std.proofs.Common.{◌≡◌, length, All}
use Rattle.brick_store.specs.Bricks.{IsRowOf}
use Rattle.measured_rows.specs.OneBrick.{one_brick}
use Rattle.measured_rows.proofs.one_brick.batch.Given as goal

abbrev pub invariant-rows : goal.invariant-rows
invariant-rows l = record {
  all : All (IsRowOf one_brick) l.rows.rows;
  count : length l.rows.rows ≡ l._row;
  dims : l.rows.dims ≡ 2;
  width : l.rows.width ≡ 1;
  room : l.rows.room ≡ 1_000;
}
