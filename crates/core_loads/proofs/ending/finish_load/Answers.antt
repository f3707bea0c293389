use Rattle.std.proofs.lemmas.Bool.{OnTrue_at}
use Rattle.core_changes.proofs.EndedChanges.{same-finished}
use Rattle.core_loads.proofs.EndedLoads.{finished, stopped}
use Rattle.core_states.specs.StandingInCore.{HoldsForMode}
use Rattle.linked_shards.specs.CellShards.{CoreShardStands}
use Rattle.core_changes.specs.ChangeEnds.{begun_entries}
use Rattle.session_replies.specs.Modes.{mode_of}
use Rattle.shard_events.specs.ShardsInRuns.{FitsShard, ShardAnswerSays}
use Rattle.core_loads.proofs.ending.finish_load.Goals as goal

pub returns-then-finish_change-clause-answered : goal.returns-then-finish_change-clause-answered
returns-then-finish_change-clause-answered g c = λ first file batches told begun.
    let old = c.args.caller.now in
    let own = g.P.CellCaller.own in
    let now = own c.finish_change.new.caller in
    let did = c.finish_change.ensures in
    let new = c.finish_change.new.session in
    finished (g.P.CellCaller.opening old) (g.P.CellCaller.number old) c.args.session.now c.args.statement.now file first
    (own old) now c.args.place c.args.cube.now c.args.writer.now c.requires.writer c.requires.counted
    c.args.rows c.args.bad batches new told begun did.more did.plain did.becomes
    (coe 0 1 (i. HoldsForMode FitsShard CoreShardStands ShardAnswerSays (did.opening i) (did.number i) new.number now
    (mode_of new.mode)) did.holds)
    (OnTrue_at c.if-finish_change.true did.finished)

pub returns-else-finish_change-clause-answered : goal.returns-else-finish_change-clause-answered
returns-else-finish_change-clause-answered g c = λ first file batches told begun.
    let old = c.args.caller.now in
    let own = g.P.CellCaller.own in
    let session = c.args.session.now in
    let did = c.finish_change.ensures in
    let new = c.finish_change.new.session in
    stopped (g.P.CellCaller.opening old) (g.P.CellCaller.number old) session c.args.statement.now file first (own old)
    (own c.finish_change.new.caller) c.args.place c.args.cube.now
    (begun_entries session.number session.statements (mode_of session.mode) c.args.writer.now) new begun.left did.more
    did.plain (same-finished session new c.requires.counted did.becomes)
