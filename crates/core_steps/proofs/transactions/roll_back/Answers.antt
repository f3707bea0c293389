use Rattle.std.proofs.Common.{inl}
use Rattle.core_program.specs.Knowing.{IsSessionOf}
use Rattle.linked_shards.specs.CellShards.{CoreShardStands}
use Rattle.shard_events.specs.ShardsInRuns.{FitsShard, ShardAnswerSays}
use Rattle.core_steps.proofs.transactions.roll_back.Goals as goal

pub roll_back_shards-requires-clause-holds : goal.roll_back_shards-requires-clause-holds
roll_back_shards-requires-clause-holds g c = inl c.requires.holds

pub end_writer-requires-clause-holds : goal.end_writer-requires-clause-holds
end_writer-requires-clause-holds g c = (c.args.writer, c.in-Ok.ensures.holds)

pub end_writer-requires-clause-session : goal.end_writer-requires-clause-session
end_writer-requires-clause-session g c =
    coe 1 0
    (i. IsSessionOf FitsShard CoreShardStands ShardAnswerSays (c.roll_back_shards.ensures.opening i) c.args.session)
    c.requires.on_core.by_number
