use Rattle.std.proofs.Common.{◌≡◌, ◌≤◌, length, All}
use Rattle.brick_map.specs.Batches.{IsRowOfCube}
use Rattle.measured_shards.specs.ManyBricks.{many_bricks}
use Rattle.measured_shards.proofs.batches.sorted_batch.Given as goal

abbrev pub invariant-rows : goal.invariant-rows
invariant-rows l = record {
  all : All (IsRowOfCube (many_bricks l.bricks)) l.batch.rows;
  count : length l.batch.rows ≡ l.row;
  dims : l.batch.dims ≡ 2;
  width : l.batch.width ≡ 1;
  room : l.rows ≤ l.batch.room;
}
