use Rattle.core_inserts.proofs.EndedInserts.{is-plain, refused}
use Rattle.core_states.specs.StandingInCore.{HoldsForMode}
use Rattle.linked_shards.specs.CellShards.{CoreShardStands}
use Rattle.session_replies.specs.Modes.{mode_of}
use Rattle.shard_events.specs.ShardsInRuns.{FitsShard, ShardAnswerSays}
use Rattle.core_inserts.proofs.bound.refuse_insert.Goals as goal

pub refuse_plainly-requires-clause-client : goal.refuse_plainly-requires-clause-client
refuse_plainly-requires-clause-client g c = c.requires.may.served.client

pub refuse_plainly-requires-clause-session : goal.refuse_plainly-requires-clause-session
refuse_plainly-requires-clause-session g c = c.requires.may.served.is_session

pub refuse_plainly-requires-clause-holds : goal.refuse_plainly-requires-clause-holds
refuse_plainly-requires-clause-holds g c = c.requires.may.holds

pub refuse_plainly-requires-clause-cubes : goal.refuse_plainly-requires-clause-cubes
refuse_plainly-requires-clause-cubes g c =
    (is-plain (g.P.CellCaller.opening c.args.caller.now) (g.P.CellCaller.number c.args.caller.now)
    (g.P.CellCaller.own c.args.caller.now) c.args.place c.args.decl.now c.args.statement.now c.args.refusal
    c.requires.why).cubes

pub refuse_plainly-requires-clause-store : goal.refuse_plainly-requires-clause-store
refuse_plainly-requires-clause-store g c =
    (is-plain (g.P.CellCaller.opening c.args.caller.now) (g.P.CellCaller.number c.args.caller.now)
    (g.P.CellCaller.own c.args.caller.now) c.args.place c.args.decl.now c.args.statement.now c.args.refusal
    c.requires.why).store

pub returns-clause-answered : goal.returns-clause-answered
returns-clause-answered g c = λ first nothing.
    let old = c.args.caller.now in
    let own = g.P.CellCaller.own in
    let now = own c.refuse_plainly.new.caller in
    let did = c.refuse_plainly.ensures in
    let session = c.args.session.now in
    refused (g.P.CellCaller.opening old) (g.P.CellCaller.number old) session c.args.statement.now first (own old) now
    c.args.place c.args.decl.now c.args.refusal c.refuse_plainly.result c.requires.may.counted c.requires.why nothing
    did.said did.left did.stopped
    (coe 0 1 (i. HoldsForMode FitsShard CoreShardStands ShardAnswerSays (did.opening i) (did.number i) session.number
    now (mode_of session.mode)) did.holds)
