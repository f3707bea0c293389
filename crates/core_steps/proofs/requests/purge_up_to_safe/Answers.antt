use Rattle.std.proofs.Common.{None}
use Rattle.core_program.specs.Knowing.{IsSessionOf}
use Rattle.linked_shards.specs.CellShards.{CoreShardStands}
use Rattle.session_requests.specs.SessionRequests.{KnowsSafe}
use Rattle.shard_events.specs.ShardsInRuns.{FitsShard, ShardAnswerSays}
use Rattle.core_steps.proofs.requests.purge_up_to_safe.Goals as goal

pub purge_shards-requires-clause-ready : goal.purge_shards-requires-clause-ready
purge_shards-requires-clause-ready g c = (None, c.read_counters-lse.ensures.same.ready None c.requires.holds)

pub purge_shards-requires-clause-safe : goal.purge_shards-requires-clause-safe
purge_shards-requires-clause-safe g c =
    let before = c.args.caller.now in
    let did = c.read_counters-lse.ensures in
    coe 1 0 (i. KnowsSafe (did.opening i) (did.number i) c.args.session (did.own i) c.read_counters-lse.result.lse)
    (c.sessions_know_the_lse_they_saw.ensures.counted (g.P.CellCaller.opening before) (g.P.CellCaller.number before)
    c.args.session (g.P.CellCaller.own before) c.read_counters-lse.result c.requires.on_core.client).safe

pub purge_shards-requires-clause-session : goal.purge_shards-requires-clause-session
purge_shards-requires-clause-session g c =
    coe 1 0
    (i. IsSessionOf FitsShard CoreShardStands ShardAnswerSays (c.read_counters-lse.ensures.opening i) c.args.session)
    c.requires.on_core.by_number

pub returns-in-Ok-clause-holds : goal.returns-in-Ok-clause-holds
returns-in-Ok-clause-holds g c =
    c.purge_shards.ensures.same.ready None (c.read_counters-lse.ensures.same.ready None c.requires.holds)

pub returns-in-Err-clause-holds : goal.returns-in-Err-clause-holds
returns-in-Err-clause-holds g c =
    c.purge_shards.ensures.same.ready None (c.read_counters-lse.ensures.same.ready None c.requires.holds)
