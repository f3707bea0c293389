use Rattle.copied_rows.proofs.ShardRows.{shard-rows}
use Rattle.copied_rows.proofs.law.shards_have_rows_of_their_bricks.Goals as goal

pub returns : goal.returns
returns c = shard-rows
