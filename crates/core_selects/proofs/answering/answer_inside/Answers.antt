use Rattle.std.proofs.Common.{refl}
use Rattle.core_selects.specs.SelectEnds.{read_inside}
use Rattle.core_selects.proofs.EndedSelects.{holding-reads, tried-ends, tried-reads}
use Rattle.core_states.specs.StandingInCore.{HoldsForMode}
use Rattle.cube_journal.specs.declared.refusal.Refusal.TheVariants.{NoMemory}
use Rattle.core_program.specs.Knowing.{IsClientOf, IsSessionOf}
use Rattle.linked_shards.specs.CellShards.{CoreShardStands}
use Rattle.shard_events.specs.ShardsInRuns.{FitsShard, ShardAnswerSays}
use Rattle.core_selects.proofs.answering.answer_inside.Goals as goal

pub read_lines-requires-clause-ready : goal.read_lines-requires-clause-ready
read_lines-requires-clause-ready g c =
    c.snapshot_holders_are_ready.ensures.writer (g.P.CellCaller.opening c.args.caller.now)
    (g.P.CellCaller.number c.args.caller.now) c.args.session.now.number (g.P.CellCaller.own c.args.caller.now)
    c.args.writer.now
    (coe 0 1 (i. HoldsForMode FitsShard CoreShardStands ShardAnswerSays (g.P.CellCaller.opening c.args.caller.now)
    (g.P.CellCaller.number c.args.caller.now) c.args.session.now.number (g.P.CellCaller.own c.args.caller.now)
    (c.requires.inside i)) c.requires.holds)

pub refuse_plainly-requires-clause-client : goal.refuse_plainly-requires-clause-client
refuse_plainly-requires-clause-client g c =
    let did = c.read_lines.ensures in
    coe 1 0 (i. IsClientOf FitsShard CoreShardStands ShardAnswerSays (did.opening i) (did.number i)
    c.args.session.now.number) c.requires.served.client

pub refuse_plainly-requires-clause-session : goal.refuse_plainly-requires-clause-session
refuse_plainly-requires-clause-session g c =
    coe 1 0 (i. IsSessionOf FitsShard CoreShardStands ShardAnswerSays (c.read_lines.ensures.opening i)
    c.args.session.now.number) c.requires.served.is_session

pub refuse_plainly-requires-clause-holds : goal.refuse_plainly-requires-clause-holds
refuse_plainly-requires-clause-holds g c =
    let did = c.read_lines.ensures in
    let own = g.P.CellCaller.own in
    coe 1 0 (i. HoldsForMode FitsShard CoreShardStands ShardAnswerSays (did.opening i) (did.number i)
    c.args.session.now.number (own c.read_lines.new.caller) (c.requires.inside i))
    (did.holding.same.writer c.args.writer.now
    (coe 0 1 (i. HoldsForMode FitsShard CoreShardStands ShardAnswerSays (g.P.CellCaller.opening c.args.caller.now)
    (g.P.CellCaller.number c.args.caller.now) c.args.session.now.number (own c.args.caller.now) (c.requires.inside i))
    c.requires.holds))

pub returns-in-Ok-clause-holds : goal.returns-in-Ok-clause-holds
returns-in-Ok-clause-holds g c =
    let did = c.read_lines.ensures in
    let own = g.P.CellCaller.own in
    coe 1 0 (i. HoldsForMode FitsShard CoreShardStands ShardAnswerSays (did.opening i) (did.number i)
    c.args.session.now.number (own c.read_lines.new.caller) (c.requires.inside i))
    (did.holding.same.writer c.args.writer.now
    (coe 0 1 (i. HoldsForMode FitsShard CoreShardStands ShardAnswerSays (g.P.CellCaller.opening c.args.caller.now)
    (g.P.CellCaller.number c.args.caller.now) c.args.session.now.number (own c.args.caller.now) (c.requires.inside i))
    c.requires.holds))

pub returns-in-Ok-clause-more : goal.returns-in-Ok-clause-more
returns-in-Ok-clause-more g c =
    let own = g.P.CellCaller.own in
    (holding-reads (g.P.CellCaller.opening c.args.caller.now) (g.P.CellCaller.number c.args.caller.now)
    c.args.session.now.number (own c.args.caller.now) (own c.read_lines.new.caller) c.read_lines.ensures.holding).more

pub returns-in-Ok-clause-reads : goal.returns-in-Ok-clause-reads
returns-in-Ok-clause-reads g c =
    let own = g.P.CellCaller.own in
    (holding-reads (g.P.CellCaller.opening c.args.caller.now) (g.P.CellCaller.number c.args.caller.now)
    c.args.session.now.number (own c.args.caller.now) (own c.read_lines.new.caller) c.read_lines.ensures.holding).reads

pub returns-in-Ok-clause-ends : goal.returns-in-Ok-clause-ends
returns-in-Ok-clause-ends g c =
    read_inside c.args.writer.now c.in-Ok.table c.requires.inside
    (coe 0 1 (i. HoldsForMode FitsShard CoreShardStands ShardAnswerSays (g.P.CellCaller.opening c.args.caller.now)
    (g.P.CellCaller.number c.args.caller.now) c.args.session.now.number (g.P.CellCaller.own c.args.caller.now)
    (c.requires.inside i)) c.requires.holds)
    c.in-Ok.ensures.read

pub returns-in-Err-clause-more : goal.returns-in-Err-clause-more
returns-in-Err-clause-more g c =
    let own = g.P.CellCaller.own in
    let cells = g.P.CellCaller.opening c.args.caller.now in
    let number = g.P.CellCaller.number c.args.caller.now in
    let mid = c.read_lines.new.caller in
    let did = c.read_lines.ensures in
    let said = c.refuse_plainly.ensures in
    (tried-reads cells number c.args.session.now (own c.args.caller.now) (own mid) (own c.refuse_plainly.new.caller)
    (g.P.CellCaller.opening mid) (g.P.CellCaller.number mid) did.opening did.number NoMemory c.refuse_plainly.result
    said.left said.stopped
    did.holding.left).more

pub returns-in-Err-clause-reads : goal.returns-in-Err-clause-reads
returns-in-Err-clause-reads g c =
    let own = g.P.CellCaller.own in
    let cells = g.P.CellCaller.opening c.args.caller.now in
    let number = g.P.CellCaller.number c.args.caller.now in
    let mid = c.read_lines.new.caller in
    let did = c.read_lines.ensures in
    let said = c.refuse_plainly.ensures in
    (tried-reads cells number c.args.session.now (own c.args.caller.now) (own mid) (own c.refuse_plainly.new.caller)
    (g.P.CellCaller.opening mid) (g.P.CellCaller.number mid) did.opening did.number NoMemory c.refuse_plainly.result
    said.left said.stopped
    did.holding.left).reads

pub returns-in-Err-clause-ends : goal.returns-in-Err-clause-ends
returns-in-Err-clause-ends g c =
    let own = g.P.CellCaller.own in
    let cells = g.P.CellCaller.opening c.args.caller.now in
    let number = g.P.CellCaller.number c.args.caller.now in
    let mid = c.read_lines.new.caller in
    let did = c.read_lines.ensures in
    let said = c.refuse_plainly.ensures in
    tried-ends cells number c.args.session.now (own c.args.caller.now) (own mid) (own c.refuse_plainly.new.caller)
    (g.P.CellCaller.opening mid) (g.P.CellCaller.number mid) did.opening did.number NoMemory c.refuse_plainly.result
    said.left said.stopped
    did.holding.left c.args.statement.now c.args.place c.args.cube.now said.said refl
