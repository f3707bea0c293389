use Rattle.std.proofs.lemmas.Bool.{OnFalse_at, OnTrue_at}
use Rattle.core_changes.proofs.EndedChanges.{same-unchanged}
use Rattle.core_loads.proofs.EndedLoads.{failed, stopped}
use Rattle.core_states.specs.StandingInCore.{HoldsForMode}
use Rattle.linked_shards.specs.CellShards.{CoreShardStands}
use Rattle.core_changes.specs.ChangeEnds.{begun_entries}
use Rattle.session_replies.specs.Modes.{mode_of}
use Rattle.shard_events.specs.ShardsInRuns.{FitsShard, ShardAnswerSays}
use Rattle.core_loads.proofs.ending.fail_load.Goals as goal

pub returns-then-fail_change-clause-answered : goal.returns-then-fail_change-clause-answered
returns-then-fail_change-clause-answered g c = λ first file fails begun.
    let old = c.args.caller.now in
    let own = g.P.CellCaller.own in
    let now = own c.fail_change.new.caller in
    let did = c.fail_change.ensures in
    let new = c.fail_change.new.session in
    let yes = c.if-fail_change.true in
    failed (g.P.CellCaller.opening old) (g.P.CellCaller.number old) c.args.session.now c.args.statement.now file first
    (own old) now c.args.place c.args.cube.now c.args.writer.now c.requires.writer c.requires.counted c.args.cause
    c.args.refusal new fails begun did.more did.plain
    (OnTrue_at yes did.becomes)
    (coe 0 1 (i. HoldsForMode FitsShard CoreShardStands ShardAnswerSays (did.opening i) (did.number i) new.number now
    (mode_of new.mode)) (OnTrue_at yes did.holds))
    (OnTrue_at yes did.left)

pub returns-else-fail_change-clause-answered : goal.returns-else-fail_change-clause-answered
returns-else-fail_change-clause-answered g c = λ first file fails begun.
    let old = c.args.caller.now in
    let own = g.P.CellCaller.own in
    let session = c.args.session.now in
    let did = c.fail_change.ensures in
    let new = c.fail_change.new.session in
    stopped (g.P.CellCaller.opening old) (g.P.CellCaller.number old) session c.args.statement.now file first (own old)
    (own c.fail_change.new.caller) c.args.place c.args.cube.now
    (begun_entries session.number session.statements (mode_of session.mode) c.args.writer.now) new begun.left did.more
    did.plain (same-unchanged session new c.requires.counted (OnFalse_at c.if-fail_change.false did.same))
