use Rattle.std.proofs.Common.{◌≡◌, ◌+◌, ◌*◌, length}
use Rattle.shard_cell.specs.Shards.{shard_rows}
use Rattle.measured_shards.proofs.filled.FilledShard.append_times.Given as goal

abbrev pub invariant-times : goal.invariant-times
invariant-times l = record {
  count : shard_rows l.self.shard ≡ shard_rows l.fn.self.shard + l.time * length l.batch.rows;
  bricks : l.self.bricks ≡ l.fn.self.bricks;
  limit : l.self.shard.limit ≡ l.fn.self.shard.limit;
}
