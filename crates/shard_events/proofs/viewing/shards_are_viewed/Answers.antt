use Rattle.shard_events.proofs.ViewedCalls.{purges_are_viewed, shards_are_viewed}
use Rattle.shard_events.proofs.viewing.shards_are_viewed.Goals as goal

pub returns-clause-calls : goal.returns-clause-calls
returns-clause-calls c = shards_are_viewed

pub returns-clause-purged : goal.returns-clause-purged
returns-clause-purged c = purges_are_viewed
