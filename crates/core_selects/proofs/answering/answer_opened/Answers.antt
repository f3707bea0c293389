use Rattle.core_selects.specs.ReadLines.{HasReadLines}
use Rattle.core_selects.specs.ReadingCalls.{GoesOnByReading}
use Rattle.core_selects.specs.SelectEnds.{HasClosedReader, read_alone}
use Rattle.core_selects.proofs.EndedSelects.{gave-up, holding-reads}
use Rattle.core_selects.proofs.Refusing.{reading-closed, reading-then}
use Rattle.core_selects.specs.ScanSteps.{HasGivenUp}
use Rattle.core_states.specs.StandingInCore.{HoldsForMode}
use Rattle.session_snapshots.specs.KnownHolds.{HoldsReader}
use Rattle.scripted_pasts.specs.Served.{IsServed}
use Rattle.session_desk.specs.Executed.{IfReplied}
use Rattle.core_program.specs.Knowing.{IsClientOf, IsSessionOf}
use Rattle.linked_shards.specs.CellShards.{CoreShardStands}
use Rattle.shard_events.specs.ShardsInRuns.{FitsShard, ShardAnswerSays}
use Rattle.core_selects.proofs.answering.answer_opened.Goals as goal

pub read_lines-requires-clause-ready : goal.read_lines-requires-clause-ready
read_lines-requires-clause-ready g c =
    c.snapshot_holders_are_ready.ensures.reader (g.P.CellCaller.opening c.args.caller.now)
    (g.P.CellCaller.number c.args.caller.now) c.args.session.now.number (g.P.CellCaller.own c.args.caller.now)
    c.args.reader.now c.requires.holds

pub close_reader-requires-clause-client : goal.close_reader-requires-clause-client
close_reader-requires-clause-client g c =
    let did = c.read_lines.ensures in
    coe 1 0 (i. IsClientOf FitsShard CoreShardStands ShardAnswerSays (did.opening i) (did.number i)
    c.args.session.now.number) c.requires.served.client

pub close_reader-requires-clause-session : goal.close_reader-requires-clause-session
close_reader-requires-clause-session g c =
    coe 1 0 (i. IsSessionOf FitsShard CoreShardStands ShardAnswerSays (c.read_lines.ensures.opening i)
    c.args.session.now.number) c.requires.served.is_session

pub close_reader-requires-clause-holds : goal.close_reader-requires-clause-holds
close_reader-requires-clause-holds g c =
    let did = c.read_lines.ensures in
    let own = g.P.CellCaller.own in (
      c.args.reader.now,
      coe 1 0 (i. HoldsReader FitsShard CoreShardStands ShardAnswerSays (did.opening i) (did.number i)
          c.args.session.now.number (own c.read_lines.new.caller) c.args.reader.now)
          (did.holding.same.reader c.args.reader.now c.requires.holds),
    )

pub give_up-requires-clause-served : goal.give_up-requires-clause-served
give_up-requires-clause-served g c =
    let did = c.read_lines.ensures in
    coe 1 0 (i. IsServed (did.opening i) (did.number i) c.args.session.now.number c.args.size.now.shards)
    c.requires.served

pub give_up-requires-clause-holds : goal.give_up-requires-clause-holds
give_up-requires-clause-holds g c =
    let did = c.read_lines.ensures in
    let own = g.P.CellCaller.own in (
      c.args.reader.now,
      coe 1 0 (i. HoldsReader FitsShard CoreShardStands ShardAnswerSays (did.opening i) (did.number i)
          c.args.session.now.number (own c.read_lines.new.caller) c.args.reader.now)
          (did.holding.same.reader c.args.reader.now c.requires.holds),
    )

pub returns-in-Ok-clause-holds : goal.returns-in-Ok-clause-holds
returns-in-Ok-clause-holds g c =
    let after = c.close_reader.new.caller in
    coe 1 0 (i. HoldsForMode FitsShard CoreShardStands ShardAnswerSays (g.P.CellCaller.opening after)
    (g.P.CellCaller.number after) c.args.session.now.number (g.P.CellCaller.own after) (c.requires.idle i))
    c.close_reader.ensures.holds

pub returns-in-Ok-clause-more : goal.returns-in-Ok-clause-more
returns-in-Ok-clause-more g c =
    let own = g.P.CellCaller.own in
    let cells = g.P.CellCaller.opening c.args.caller.now in
    let number = g.P.CellCaller.number c.args.caller.now in
    let mid = c.read_lines.new.caller in
    let after = c.close_reader.new.caller in
    let did = c.read_lines.ensures in
    (reading-then cells number c.args.session.now.number (own c.args.caller.now) (own mid) (own after)
    (holding-reads cells number c.args.session.now.number (own c.args.caller.now) (own mid) did.holding)
    (reading-closed cells number c.args.session.now.number c.requires.served.client c.args.session.now.statements
    (own mid) (own after)
    (coe 0 1 (i. HasClosedReader cells (did.number i) c.args.session.now.number c.args.session.now.statements (own mid)
    (own after)) c.close_reader.ensures.own))).more

pub returns-in-Ok-clause-reads : goal.returns-in-Ok-clause-reads
returns-in-Ok-clause-reads g c =
    let own = g.P.CellCaller.own in
    let cells = g.P.CellCaller.opening c.args.caller.now in
    let number = g.P.CellCaller.number c.args.caller.now in
    let mid = c.read_lines.new.caller in
    let after = c.close_reader.new.caller in
    let did = c.read_lines.ensures in
    (reading-then cells number c.args.session.now.number (own c.args.caller.now) (own mid) (own after)
    (holding-reads cells number c.args.session.now.number (own c.args.caller.now) (own mid) did.holding)
    (reading-closed cells number c.args.session.now.number c.requires.served.client c.args.session.now.statements
    (own mid) (own after)
    (coe 0 1 (i. HasClosedReader cells (did.number i) c.args.session.now.number c.args.session.now.statements (own mid)
    (own after)) c.close_reader.ensures.own))).reads

pub returns-in-Ok-clause-ends : goal.returns-in-Ok-clause-ends
returns-in-Ok-clause-ends g c own opening =
    let mine = g.P.CellCaller.own in
    let number = g.P.CellCaller.number c.args.caller.now in
    let mid = c.read_lines.new.caller in
    let after = c.close_reader.new.caller in
    let did = c.read_lines.ensures in
    read_alone c.args.reader.now.epoch (mine c.args.caller.now) (mine mid) c.in-Ok.table c.requires.idle opening
    (coe 0 1 (i. HasReadLines (g.P.CellCaller.opening c.args.caller.now) number c.args.session.now.number c.args.place
    c.args.cube.now c.args.statement.now (c.requires.reader i) (mine c.args.caller.now) (mine mid) c.in-Ok.table)
    c.in-Ok.ensures.read)
    (coe 0 1 (i. HasClosedReader (g.P.CellCaller.opening c.args.caller.now) (did.number i) c.args.session.now.number
    c.args.session.now.statements (mine mid) (mine after)) c.close_reader.ensures.own)

pub returns-in-Err-clause-more : goal.returns-in-Err-clause-more
returns-in-Err-clause-more g c =
    let own = g.P.CellCaller.own in
    let cells = g.P.CellCaller.opening c.args.caller.now in
    let number = g.P.CellCaller.number c.args.caller.now in
    let mid = c.read_lines.new.caller in
    let after = c.give_up.new.caller in
    let did = c.read_lines.ensures in
    (reading-then cells number c.args.session.now.number (own c.args.caller.now) (own mid) (own after)
    (holding-reads cells number c.args.session.now.number (own c.args.caller.now) (own mid) did.holding)
    (record {
      more = c.give_up.ensures.more;
      reads =
          coe 0 1 (i. GoesOnByReading (did.opening i) (did.number i) c.args.session.now.number (own mid) (own after))
          c.give_up.ensures.reads;
    })).more

pub returns-in-Err-clause-reads : goal.returns-in-Err-clause-reads
returns-in-Err-clause-reads g c =
    let own = g.P.CellCaller.own in
    let cells = g.P.CellCaller.opening c.args.caller.now in
    let number = g.P.CellCaller.number c.args.caller.now in
    let mid = c.read_lines.new.caller in
    let after = c.give_up.new.caller in
    let did = c.read_lines.ensures in
    (reading-then cells number c.args.session.now.number (own c.args.caller.now) (own mid) (own after)
    (holding-reads cells number c.args.session.now.number (own c.args.caller.now) (own mid) did.holding)
    (record {
      more = c.give_up.ensures.more;
      reads =
          coe 0 1 (i. GoesOnByReading (did.opening i) (did.number i) c.args.session.now.number (own mid) (own after))
          c.give_up.ensures.reads;
    })).reads

pub returns-in-Err-clause-ends : goal.returns-in-Err-clause-ends
returns-in-Err-clause-ends g c own opening =
    let mine = g.P.CellCaller.own in
    let cells = g.P.CellCaller.opening c.args.caller.now in
    let number = g.P.CellCaller.number c.args.caller.now in
    let mid = c.read_lines.new.caller in
    let after = c.give_up.new.caller in
    let did = c.read_lines.ensures in
    gave-up cells number c.args.session.now c.args.statement.now c.args.place c.args.cube.now own
    (mine c.args.caller.now) (mine mid) (mine after) c.args.reader.now.epoch c.give_up.result c.requires.idle opening
    did.holding
    (coe 0 1 (i. IfReplied c.give_up.result (HasGivenUp (did.opening i) (did.number i) c.args.session.now (mine mid)
    (mine after))) c.give_up.ensures.ends)
