use Rattle.shut_shards.proofs.ViewedRows.{no-mark-in-shard}
use Rattle.shut_shards.proofs.law.purged_shards_have_no_marks.Goals as goal

pub returns : goal.returns
returns c = no-mark-in-shard
