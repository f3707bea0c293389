use Rattle.shut_shards.proofs.ViewedRows.{all-in-shard, up-to-in-shard}
use Rattle.shut_shards.proofs.law.shut_shards_hold_their_views.Goals as goal

pub returns-clause-all : goal.returns-clause-all
returns-clause-all c = all-in-shard

pub returns-clause-safe : goal.returns-clause-safe
returns-clause-safe c = up-to-in-shard
