use Rattle.core_loads.proofs.EndedLoads.{refused}
use Rattle.core_states.specs.StandingInCore.{HoldsForMode}
use Rattle.linked_shards.specs.CellShards.{CoreShardStands}
use Rattle.session_replies.specs.Modes.{mode_of}
use Rattle.shard_events.specs.ShardsInRuns.{FitsShard, ShardAnswerSays}
use Rattle.core_loads.proofs.refusing.refuse_load.Goals as goal

pub refuse_plainly-requires-clause-client : goal.refuse_plainly-requires-clause-client
refuse_plainly-requires-clause-client g c = c.requires.may.served.client

pub refuse_plainly-requires-clause-session : goal.refuse_plainly-requires-clause-session
refuse_plainly-requires-clause-session g c = c.requires.may.served.is_session

pub refuse_plainly-requires-clause-holds : goal.refuse_plainly-requires-clause-holds
refuse_plainly-requires-clause-holds g c = c.requires.may.holds

pub returns-clause-answered : goal.returns-clause-answered
returns-clause-answered g c = λ first file place d right nothing.
    let old = c.args.caller.now in
    let own = g.P.CellCaller.own in
    let now = own c.refuse_plainly.new.caller in
    let did = c.refuse_plainly.ensures in
    let session = c.args.session.now in
    refused (g.P.CellCaller.opening old) (g.P.CellCaller.number old) session c.args.statement.now file first (own old)
    now place d c.args.refusal c.refuse_plainly.result c.requires.may.counted right nothing
    did.said did.left did.stopped
    (coe 0 1 (i. HoldsForMode FitsShard CoreShardStands ShardAnswerSays (did.opening i) (did.number i) session.number
    now (mode_of session.mode)) did.holds)
