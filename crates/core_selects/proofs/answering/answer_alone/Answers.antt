use Rattle.std.proofs.Common.{sym, refl}
use Rattle.core_selects.specs.ReadingCalls.{GoesOnByReading}
use Rattle.core_selects.specs.SelectEnds.{EndsSelect, HasOpenedReader}
use Rattle.core_selects.proofs.EndedSelects.{none-opened, opened-as, opened-reader, told-then, tried-ends, tried-reads}
use Rattle.core_selects.proofs.Refusing.{reading-opened, reading-then}
use Rattle.core_states.specs.StandingInCore.{HoldsForMode}
use Rattle.cube_journal.specs.declared.refusal.Refusal.TheVariants.{NoMemory}
use Rattle.scripted_pasts.specs.Served.{IsServed}
use Rattle.session_desk.specs.Executed.{IfReplied}
use Rattle.core_program.specs.Knowing.{IsClientOf, IsSessionOf}
use Rattle.linked_shards.specs.CellShards.{CoreShardStands}
use Rattle.shard_events.specs.ShardsInRuns.{FitsShard, ShardAnswerSays}
use Rattle.core_selects.proofs.answering.answer_alone.Goals as goal

pub open_reader-requires-clause-holds : goal.open_reader-requires-clause-holds
open_reader-requires-clause-holds g c =
    coe 0 1 (i. HoldsForMode FitsShard CoreShardStands ShardAnswerSays (g.P.CellCaller.opening c.args.caller.now)
    (g.P.CellCaller.number c.args.caller.now) c.args.session.now.number (g.P.CellCaller.own c.args.caller.now)
    (c.requires.idle i)) c.requires.holds

pub answer_opened-requires-clause-served : goal.answer_opened-requires-clause-served
answer_opened-requires-clause-served g c =
    let did = c.open_reader.ensures in
    coe 1 0 (i. IsServed (did.opening i) (did.number i) c.args.session.now.number c.args.size.now.shards)
    c.requires.served

pub answer_opened-requires-clause-told : goal.answer_opened-requires-clause-told
answer_opened-requires-clause-told g c =
    let own = g.P.CellCaller.own in (
      c.requires.told.0,
      told-then (g.P.CellCaller.opening c.args.caller.now) (g.P.CellCaller.number c.args.caller.now)
          c.args.session.now.number c.args.session.now.statements (own c.args.caller.now)
          (own c.open_reader.new.caller) (_, sym c.in-Some.ensures.own) c.requires.told.0 c.args.place c.args.cube.now
          c.requires.told.1,
    )

pub refuse_plainly-requires-clause-client : goal.refuse_plainly-requires-clause-client
refuse_plainly-requires-clause-client g c =
    let did = c.open_reader.ensures in
    coe 1 0 (i. IsClientOf FitsShard CoreShardStands ShardAnswerSays (did.opening i) (did.number i)
    c.args.session.now.number) c.requires.served.client

pub refuse_plainly-requires-clause-session : goal.refuse_plainly-requires-clause-session
refuse_plainly-requires-clause-session g c =
    coe 1 0 (i. IsSessionOf FitsShard CoreShardStands ShardAnswerSays (c.open_reader.ensures.opening i)
    c.args.session.now.number) c.requires.served.is_session

pub refuse_plainly-requires-clause-holds : goal.refuse_plainly-requires-clause-holds
refuse_plainly-requires-clause-holds g c =
    let mid = c.open_reader.new.caller in
    coe 1 0 (i. HoldsForMode FitsShard CoreShardStands ShardAnswerSays (g.P.CellCaller.opening mid)
    (g.P.CellCaller.number mid) c.args.session.now.number (g.P.CellCaller.own mid) (c.requires.idle i))
    c.in-None.ensures.none

pub returns-in-Some-clause-more : goal.returns-in-Some-clause-more
returns-in-Some-clause-more g c =
    let own = g.P.CellCaller.own in
    let cells = g.P.CellCaller.opening c.args.caller.now in
    let number = g.P.CellCaller.number c.args.caller.now in
    let mid = c.open_reader.new.caller in
    let after = c.answer_opened.new.caller in
    let did = c.open_reader.ensures in
    (reading-then cells number c.args.session.now.number (own c.args.caller.now) (own mid) (own after)
    (reading-opened cells number c.args.session.now.number c.requires.served.client c.args.session.now.statements
    (own c.args.caller.now) (own mid) c.in-Some.reader.epoch
    (opened-as cells number c.args.session.now.number c.args.session.now.statements (own c.args.caller.now) (own mid)
    c.in-Some.reader c.in-Some.ensures.reader c.in-Some.ensures.own))
    (record {
      more = c.answer_opened.ensures.more;
      reads =
          coe 0 1 (i. GoesOnByReading (did.opening i) (did.number i) c.args.session.now.number (own mid) (own after))
          c.answer_opened.ensures.reads;
    })).more

pub returns-in-Some-clause-reads : goal.returns-in-Some-clause-reads
returns-in-Some-clause-reads g c =
    let own = g.P.CellCaller.own in
    let cells = g.P.CellCaller.opening c.args.caller.now in
    let number = g.P.CellCaller.number c.args.caller.now in
    let mid = c.open_reader.new.caller in
    let after = c.answer_opened.new.caller in
    let did = c.open_reader.ensures in
    (reading-then cells number c.args.session.now.number (own c.args.caller.now) (own mid) (own after)
    (reading-opened cells number c.args.session.now.number c.requires.served.client c.args.session.now.statements
    (own c.args.caller.now) (own mid) c.in-Some.reader.epoch
    (opened-as cells number c.args.session.now.number c.args.session.now.statements (own c.args.caller.now) (own mid)
    c.in-Some.reader c.in-Some.ensures.reader c.in-Some.ensures.own))
    (record {
      more = c.answer_opened.ensures.more;
      reads =
          coe 0 1 (i. GoesOnByReading (did.opening i) (did.number i) c.args.session.now.number (own mid) (own after))
          c.answer_opened.ensures.reads;
    })).reads

pub returns-in-Some-clause-ends : goal.returns-in-Some-clause-ends
returns-in-Some-clause-ends g c =
    let own = g.P.CellCaller.own in
    let cells = g.P.CellCaller.opening c.args.caller.now in
    let number = g.P.CellCaller.number c.args.caller.now in
    let mid = c.open_reader.new.caller in
    let after = c.answer_opened.new.caller in
    let did = c.open_reader.ensures in
    let asker = c.args.session.now.number in
    let statement = c.args.session.now.statements in
    let opening =
    opened-reader cells number asker statement (own c.args.caller.now) (own mid) (g.P.CellCaller.opening mid)
    (g.P.CellCaller.number mid) did.opening did.number c.in-Some.reader c.in-Some.ensures.reader c.in-Some.ensures.own
    c.in-Some.ensures.opened
    in
    coe 0 1 (i. IfReplied c.answer_opened.result (EndsSelect (did.opening i) (did.number i) c.args.session.now
    c.args.statement.now c.args.place c.args.cube.now (own c.args.caller.now) (own after)))
    (c.answer_opened.ensures.ends (own c.args.caller.now)
    (coe 1 0 (i. HasOpenedReader (did.opening i) (did.number i) asker statement c.in-Some.reader.epoch
    (own c.args.caller.now) (own mid)) opening))

pub returns-in-None-clause-more : goal.returns-in-None-clause-more
returns-in-None-clause-more g c =
    let own = g.P.CellCaller.own in
    let cells = g.P.CellCaller.opening c.args.caller.now in
    let number = g.P.CellCaller.number c.args.caller.now in
    let mid = c.open_reader.new.caller in
    let did = c.open_reader.ensures in
    let said = c.refuse_plainly.ensures in
    (tried-reads cells number c.args.session.now (own c.args.caller.now) (own mid) (own c.refuse_plainly.new.caller)
    (g.P.CellCaller.opening mid) (g.P.CellCaller.number mid) did.opening did.number NoMemory c.refuse_plainly.result
    said.left said.stopped
    (none-opened cells number c.args.session.now.number c.args.session.now.statements (own c.args.caller.now) (own mid)
    c.requires.served.client c.in-None.ensures.own)).more

pub returns-in-None-clause-reads : goal.returns-in-None-clause-reads
returns-in-None-clause-reads g c =
    let own = g.P.CellCaller.own in
    let cells = g.P.CellCaller.opening c.args.caller.now in
    let number = g.P.CellCaller.number c.args.caller.now in
    let mid = c.open_reader.new.caller in
    let did = c.open_reader.ensures in
    let said = c.refuse_plainly.ensures in
    (tried-reads cells number c.args.session.now (own c.args.caller.now) (own mid) (own c.refuse_plainly.new.caller)
    (g.P.CellCaller.opening mid) (g.P.CellCaller.number mid) did.opening did.number NoMemory c.refuse_plainly.result
    said.left said.stopped
    (none-opened cells number c.args.session.now.number c.args.session.now.statements (own c.args.caller.now) (own mid)
    c.requires.served.client c.in-None.ensures.own)).reads

pub returns-in-None-clause-ends : goal.returns-in-None-clause-ends
returns-in-None-clause-ends g c =
    let own = g.P.CellCaller.own in
    let cells = g.P.CellCaller.opening c.args.caller.now in
    let number = g.P.CellCaller.number c.args.caller.now in
    let mid = c.open_reader.new.caller in
    let did = c.open_reader.ensures in
    let said = c.refuse_plainly.ensures in
    tried-ends cells number c.args.session.now (own c.args.caller.now) (own mid) (own c.refuse_plainly.new.caller)
    (g.P.CellCaller.opening mid) (g.P.CellCaller.number mid) did.opening did.number NoMemory c.refuse_plainly.result
    said.left said.stopped
    (none-opened cells number c.args.session.now.number c.args.session.now.statements (own c.args.caller.now) (own mid)
    c.requires.served.client c.in-None.ensures.own) c.args.statement.now c.args.place c.args.cube.now said.said refl
