use Rattle.std.proofs.Common.{◌≡◌, ◌≤◌, All, length}
use Rattle.brick_map.specs.Batches.{IsRowOfCube}
use Rattle.shard_cases.specs.Cases.{case_shape}
use Rattle.shard_cases.proofs.making.batch_of.Given as goal

abbrev pub invariant-rows : goal.invariant-rows
invariant-rows g l = record {
  own : All (IsRowOfCube case_shape) l.batch.rows;
  dims : l.batch.dims ≡ 1;
  width : l.batch.width ≡ 1;
  many : length l.batch.rows ≡ l._i;
  room : l.rows ≤ l.batch.room;
}
