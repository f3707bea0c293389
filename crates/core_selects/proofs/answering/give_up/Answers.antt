use Rattle.std.proofs.Common.{refl}
use Rattle.core_selects.proofs.EndedSelects.{gave-up-ends, gave-up-reads}
use Rattle.core_states.specs.StandingInCore.{HoldsForMode}
use Rattle.cube_journal.specs.declared.refusal.Refusal.TheVariants.{NoMemory}
use Rattle.core_program.specs.Knowing.{IsClientOf, IsSessionOf}
use Rattle.linked_shards.specs.CellShards.{CoreShardStands}
use Rattle.shard_events.specs.ShardsInRuns.{FitsShard, ShardAnswerSays}
use Rattle.core_selects.proofs.answering.give_up.Goals as goal

pub refuse_plainly-requires-clause-client : goal.refuse_plainly-requires-clause-client
refuse_plainly-requires-clause-client g c =
    let did = c.close_reader.ensures in
    coe 1 0 (i. IsClientOf FitsShard CoreShardStands ShardAnswerSays (did.opening i) (did.number i)
    c.args.session.now.number) c.requires.served.client

pub refuse_plainly-requires-clause-session : goal.refuse_plainly-requires-clause-session
refuse_plainly-requires-clause-session g c =
    coe 1 0 (i. IsSessionOf FitsShard CoreShardStands ShardAnswerSays (c.close_reader.ensures.opening i)
    c.args.session.now.number) c.requires.served.is_session

pub refuse_plainly-requires-clause-holds : goal.refuse_plainly-requires-clause-holds
refuse_plainly-requires-clause-holds g c =
    let mid = c.close_reader.new.caller in
    coe 1 0 (i. HoldsForMode FitsShard CoreShardStands ShardAnswerSays (g.P.CellCaller.opening mid)
    (g.P.CellCaller.number mid) c.args.session.now.number (g.P.CellCaller.own mid) (c.requires.idle i))
    c.close_reader.ensures.holds

pub returns-clause-more : goal.returns-clause-more
returns-clause-more g c =
    let own = g.P.CellCaller.own in
    let mid = c.close_reader.new.caller in
    let did = c.close_reader.ensures in
    let said = c.refuse_plainly.ensures in
    (gave-up-reads (g.P.CellCaller.opening c.args.caller.now) (g.P.CellCaller.number c.args.caller.now)
    c.args.session.now (own c.args.caller.now) (own mid) (own c.refuse_plainly.new.caller) (g.P.CellCaller.opening mid)
    (g.P.CellCaller.number mid) did.opening did.number NoMemory c.refuse_plainly.result said.left said.stopped
    c.requires.served.client did.own).more

pub returns-clause-reads : goal.returns-clause-reads
returns-clause-reads g c =
    let own = g.P.CellCaller.own in
    let mid = c.close_reader.new.caller in
    let did = c.close_reader.ensures in
    let said = c.refuse_plainly.ensures in
    (gave-up-reads (g.P.CellCaller.opening c.args.caller.now) (g.P.CellCaller.number c.args.caller.now)
    c.args.session.now (own c.args.caller.now) (own mid) (own c.refuse_plainly.new.caller) (g.P.CellCaller.opening mid)
    (g.P.CellCaller.number mid) did.opening did.number NoMemory c.refuse_plainly.result said.left said.stopped
    c.requires.served.client did.own).reads

pub returns-clause-ends : goal.returns-clause-ends
returns-clause-ends g c =
    let own = g.P.CellCaller.own in
    let mid = c.close_reader.new.caller in
    let did = c.close_reader.ensures in
    let said = c.refuse_plainly.ensures in
    gave-up-ends (g.P.CellCaller.opening c.args.caller.now) (g.P.CellCaller.number c.args.caller.now) c.args.session.now
    (own c.args.caller.now) (own mid) (own c.refuse_plainly.new.caller) (g.P.CellCaller.opening mid)
    (g.P.CellCaller.number mid) did.opening did.number NoMemory c.refuse_plainly.result said.left said.stopped
    c.requires.served.client did.own said.said refl
