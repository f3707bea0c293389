use Rattle.std.proofs.lemmas.Result.{IfOk-weaker}
use Rattle.core_selects.specs.ReadLines.{AreFirstOfTable, GoesOnHolding}
use Rattle.board_callers.specs.Callers.{HasHistoryOf}
use Rattle.condition_spans.specs.Codes.{lists_at}
use Rattle.core_program.specs.CoreFits.{FitsOwnCalls}
use Rattle.core_program.specs.Knowing.{IsClientOf, IsSessionOf}
use Rattle.core_selects.proofs.GoneOn.{found-room, holding-scan, holding-then, same-here}
use Rattle.core_selects.specs.ScanSteps.{HasScannedLines}
use Rattle.cube_core.specs.CoreSteps.{CoreStep}
use Rattle.linked_shards.specs.CellShards.{CoreShardStands, CoreShardStep}
use Rattle.session_groups.specs.ShardGroups.{HasFoundRows, KnowsOfShards}
use Rattle.shard_events.specs.ShardsInRuns.{FitsShard, ShardAnswerSays}
use Rattle.core_selects.proofs.reading.read_scanned.Goals as goal

pub scan_shards-requires-clause-some : goal.scan_shards-requires-clause-some
scan_shards-requires-clause-some g c = c.requires.served.some

pub scan_shards-requires-clause-client : goal.scan_shards-requires-clause-client
scan_shards-requires-clause-client g c = c.requires.served.client

pub scan_shards-requires-clause-session : goal.scan_shards-requires-clause-session
scan_shards-requires-clause-session g c = c.requires.served.is_session

pub scan_shards-requires-clause-mails : goal.scan_shards-requires-clause-mails
scan_shards-requires-clause-mails g c = c.requires.served.mails

pub read_after_scan-requires-clause-client : goal.read_after_scan-requires-clause-client
read_after_scan-requires-clause-client g c =
    let did = c.scan_shards.ensures in
    coe 1 0 (i. IsClientOf FitsShard CoreShardStands ShardAnswerSays (did.opening i) (did.number i) c.args.session)
    c.requires.served.client

pub read_after_scan-requires-clause-session : goal.read_after_scan-requires-clause-session
read_after_scan-requires-clause-session g c =
    let did = c.scan_shards.ensures in
    coe 1 0 (i. IsSessionOf FitsShard CoreShardStands ShardAnswerSays (did.opening i) c.args.session)
    c.requires.served.is_session

pub lines_of-requires : goal.lines_of-requires
lines_of-requires g c =
    let own = g.P.CellCaller.own in
    let cells = g.P.CellCaller.opening c.args.caller.now in
    let number = g.P.CellCaller.number c.args.caller.now in
    let mid = c.scan_shards.new.caller in
    let after = c.read_after_scan.new.caller in
    let did = c.scan_shards.ensures in
    let read = c.read_after_scan.ensures in
    let served = c.requires.served in
    found-room cells number c.args.session c.args.size.now.shards served.some served.client served.is_session served.mails
    c.args.query c.args.snapshot.now c.in-Ok.found.groups (own mid) (own after) read.holding.left.more
    (coe 0 1 (i. KnowsOfShards (did.opening i) (did.number i) c.args.session (own mid)
    (HasFoundRows c.args.session c.args.query c.args.snapshot.now c.in-Ok.found.groups)) c.in-Ok.ensures.found)
    (coe 0 1 (i. HasHistoryOf (CoreStep CoreShardStep) (FitsOwnCalls FitsShard CoreShardStands ShardAnswerSays)
    (did.opening i) (did.number i) (own after)) read.history)

pub returns-in-Ok-clause-holding : goal.returns-in-Ok-clause-holding
returns-in-Ok-clause-holding g c =
    let own = g.P.CellCaller.own in
    let cells = g.P.CellCaller.opening c.args.caller.now in
    let number = g.P.CellCaller.number c.args.caller.now in
    let mid = c.scan_shards.new.caller in
    let after = c.read_after_scan.new.caller in
    let did = c.scan_shards.ensures in
    holding-then cells number c.args.session (own c.args.caller.now) (own mid) (own after)
    (holding-scan cells number c.args.session c.args.size.now.shards c.args.shape.now c.args.query c.args.snapshot.now
    (own c.args.caller.now) (own mid) did.asked
    (same-here c.args.session cells number (own c.args.caller.now) (g.P.CellCaller.opening mid) (g.P.CellCaller.number mid)
    (own mid) did.opening did.number did.holds))
    (coe 0 1 (i. GoesOnHolding (did.opening i) (did.number i) c.args.session (own mid) (own after))
    c.read_after_scan.ensures.holding)

pub returns-in-Ok-clause-read : goal.returns-in-Ok-clause-read
returns-in-Ok-clause-read g c =
    let own = g.P.CellCaller.own in
    let cells = g.P.CellCaller.opening c.args.caller.now in
    let number = g.P.CellCaller.number c.args.caller.now in
    let mid = c.scan_shards.new.caller in
    let after = c.read_after_scan.new.caller in
    let did = c.scan_shards.ensures in
    let groups = c.in-Ok.found.groups in
    let lists = lists_at c.args.names 0 in
    IfOk-weaker c.lines_of.result (AreFirstOfTable c.args.statement.now lists c.args.query groups)
    (HasScannedLines cells number c.args.session c.args.statement.now lists c.args.query c.args.snapshot.now
    (own c.args.caller.now) (own after))
    (λ lines are. record {
      scanned = own mid;
      groups = groups;
      scanning =
          holding-scan cells number c.args.session c.args.size.now.shards c.args.shape.now c.args.query
          c.args.snapshot.now (own c.args.caller.now) (own mid) did.asked
          (same-here c.args.session cells number (own c.args.caller.now) (g.P.CellCaller.opening mid)
          (g.P.CellCaller.number mid) (own mid) did.opening did.number did.holds);
      making =
          coe 0 1 (i. GoesOnHolding (did.opening i) (did.number i) c.args.session (own mid) (own after))
          c.read_after_scan.ensures.holding;
      found =
          coe 0 1 (i. KnowsOfShards (did.opening i) (did.number i) c.args.session (own mid)
          (HasFoundRows c.args.session c.args.query c.args.snapshot.now groups)) c.in-Ok.ensures.found;
      are = are;
    })
    c.lines_of.ensures

pub returns-in-Err-clause-holding : goal.returns-in-Err-clause-holding
returns-in-Err-clause-holding g c =
    let own = g.P.CellCaller.own in
    let cells = g.P.CellCaller.opening c.args.caller.now in
    let number = g.P.CellCaller.number c.args.caller.now in
    let mid = c.scan_shards.new.caller in
    let did = c.scan_shards.ensures in
    holding-scan cells number c.args.session c.args.size.now.shards c.args.shape.now c.args.query c.args.snapshot.now
    (own c.args.caller.now) (own mid) did.asked
    (same-here c.args.session cells number (own c.args.caller.now) (g.P.CellCaller.opening mid) (g.P.CellCaller.number mid)
    (own mid) did.opening did.number did.holds)
