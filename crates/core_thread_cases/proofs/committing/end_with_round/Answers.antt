use Rattle.std.proofs.Common.{sym, subst}
use Rattle.core_program.specs.Knowing.{IsSessionOf, ServesClient}
use Rattle.linked_shards.specs.CellShards.{CoreShardStands}
use Rattle.shard_events.specs.ShardsInRuns.{FitsShard, ShardAnswerSays}
use Rattle.core_thread_cases.proofs.committing.end_with_round.Goals as goal

pub ask_flush-requires-clause-session : goal.ask_flush-requires-clause-session
ask_flush-requires-clause-session g c =
    subst (λ cells. IsSessionOf FitsShard CoreShardStands ShardAnswerSays cells c.args.session)
    (sym c.commit.ensures.opening) c.requires.may.session

pub ask_flush-requires-clause-serves : goal.ask_flush-requires-clause-serves
ask_flush-requires-clause-serves g c =
    subst (λ cells. ServesClient FitsShard CoreShardStands ShardAnswerSays cells c.args.session c.args.size.now.shards)
    (sym c.commit.ensures.opening) c.requires.may.serves
