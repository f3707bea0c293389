use Rattle.opened_core.proofs.OpenedShards.{HoldsFirst}
use Rattle.opened_core.proofs.shard.open_shard.Given as goal

abbrev pub invariant-cubes : goal.invariant-cubes
invariant-cubes l = HoldsFirst l.kept l.shards l.number l.place l.shard
