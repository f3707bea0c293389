use Rattle.std.proofs.Common.{inl, subst}
use Rattle.core_states.specs.StandingInCore.{HoldsForMode}
use Rattle.session_replies.specs.Modes.{mode_of}
use Rattle.session_replies.specs.declared.mode.SessionMode.{SessionMode}
use Rattle.linked_shards.specs.CellShards.{CoreShardStands}
use Rattle.shard_events.specs.ShardsInRuns.{FitsShard, ShardAnswerSays}
use Rattle.shard_statements.proofs.rollbacks.take_back_open.Goals as goal

pub take_back-requires-clause-holds : goal.take_back-requires-clause-holds
take_back-requires-clause-holds g c =
    inl (subst (λ (m : SessionMode). HoldsForMode FitsShard CoreShardStands ShardAnswerSays
    (g.P.CellCaller.opening c.args.caller.now) (g.P.CellCaller.number c.args.caller.now) c.args.session.now.number (g.P.CellCaller.own c.args.caller.now) (mode_of m)) c.in-Open.is c.requires.holds)
