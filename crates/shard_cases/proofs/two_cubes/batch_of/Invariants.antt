use Rattle.std.proofs.Common.{All}
use Rattle.brick_map.specs.Batches.{IsRowOfCube}
use Rattle.shard_cases.specs.Drawn.{shape_at}
use Rattle.shard_cases.proofs.two_cubes.batch_of.Given as goal

abbrev pub invariant-rows : goal.invariant-rows
invariant-rows g l = All (IsRowOfCube (shape_at l.cube)) l.batch.rows
