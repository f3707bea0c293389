use Rattle.std.proofs.Common.{[], ◌∷◌}
use Rattle.std.proofs.lemmas.Bool.{OnFalse_at, OnTrue_at}
use Rattle.core_changes.proofs.BegunChanges.{begun-at-epoch, begun-with-operations}
use Rattle.core_changes.specs.ChangesUnderWay.{HasBegunWith}
use Rattle.core_deletes.specs.DeleteEnds.{AnswersAsDelete}
use Rattle.core_events.specs.Serial.{DropRows}
use Rattle.dropped_regions.proofs.BoxesOfPlans.{box-later}
use Rattle.dropped_regions.specs.DeleteBoxes.{IsBoxOf, IsDeleteText}
use Rattle.linked_shards.specs.CellShards.{CoreShardStands}
use Rattle.posted_pasts.specs.PostsAdded.{AddsAtEpoch, AddsOperations}
use Rattle.scripted_pasts.specs.Served.{IsServed}
use Rattle.shard_events.specs.ShardsInRuns.{FitsShard, ShardAnswerSays}
use Rattle.core_deletes.proofs.dropping.delete_by.Goals as goal

pub has_dropped-requires-clause-whole : goal.has_dropped-requires-clause-whole
has_dropped-requires-clause-whole g c = c.requires.is_box.whole

pub finish_delete-requires-clause-served : goal.finish_delete-requires-clause-served
finish_delete-requires-clause-served g c =
    let did = c.has_dropped.ensures in
    coe 1 0 (i. IsServed (did.opening i) (did.number i) c.args.session.now.number c.args.size.now.shards) c.requires.served

pub finish_delete-requires-clause-holds : goal.finish_delete-requires-clause-holds
finish_delete-requires-clause-holds g c = OnTrue_at c.if-has_dropped.true c.has_dropped.ensures.holds

pub finish_delete-requires-clause-is_box : goal.finish_delete-requires-clause-is_box
finish_delete-requires-clause-is_box g c =
    let did = c.has_dropped.ensures in
    let old = c.args.caller.now in
    let now = g.P.CellCaller.own c.has_dropped.new.caller in
    coe 1 0 (i. IsBoxOf FitsShard CoreShardStands ShardAnswerSays (did.opening i) (did.number i) now c.args.place
    c.args.cube.now c.args.statement.now c.args.span.now)
    (box-later FitsShard CoreShardStands ShardAnswerSays (g.P.CellCaller.opening old) (g.P.CellCaller.number old)
    (g.P.CellCaller.own old) c.args.place c.args.cube.now now c.args.statement.now c.args.span.now did.left.left.more
    c.requires.is_box)

pub returns-then-has_dropped-clause-answered : goal.returns-then-has_dropped-clause-answered
returns-then-has_dropped-clause-answered g c = λ first begun.
    let did = c.has_dropped.ensures in
    let old = c.args.caller.now in
    let own = g.P.CellCaller.own in
    let mid = own c.has_dropped.new.caller in
    let session = c.args.session.now in
    let writer = c.args.writer.now in
    let s = c.args.statement.now in
    coe 0 1 (i. AnswersAsDelete (did.opening i) (did.number i) session s first (own c.finish_delete.new.caller) c.args.place
    c.args.cube.now c.finish_delete.new.session c.finish_delete.result)
    (c.finish_delete.ensures.answered first
    (coe 1 0 (i. HasBegunWith (did.opening i) (did.number i) session s first mid
    (IsDeleteText c.args.place c.args.cube.now s) writer
    (AddsOperations c.args.place writer.epoch (DropRows c.args.span.now ∷ [])))
    (begun-with-operations (g.P.CellCaller.opening old) (g.P.CellCaller.number old) session s
    (IsDeleteText c.args.place c.args.cube.now s) first (own old) mid writer begun did.left c.args.place
    (DropRows c.args.span.now ∷ []) (OnTrue_at c.if-has_dropped.true did.operations))))

pub fail_delete-requires-clause-served : goal.fail_delete-requires-clause-served
fail_delete-requires-clause-served g c =
    let did = c.has_dropped.ensures in
    coe 1 0 (i. IsServed (did.opening i) (did.number i) c.args.session.now.number c.args.size.now.shards) c.requires.served

pub fail_delete-requires-clause-holds : goal.fail_delete-requires-clause-holds
fail_delete-requires-clause-holds g c = OnFalse_at c.if-has_dropped.false c.has_dropped.ensures.open

pub returns-else-has_dropped-clause-answered : goal.returns-else-has_dropped-clause-answered
returns-else-has_dropped-clause-answered g c = λ first begun.
    let did = c.has_dropped.ensures in
    let old = c.args.caller.now in
    let own = g.P.CellCaller.own in
    let mid = own c.has_dropped.new.caller in
    let session = c.args.session.now in
    let writer = c.args.writer.now in
    let s = c.args.statement.now in
    coe 0 1 (i. AnswersAsDelete (did.opening i) (did.number i) session s first (own c.fail_delete.new.caller) c.args.place
    c.args.cube.now c.fail_delete.new.session c.fail_delete.result)
    (c.fail_delete.ensures.answered first
    (coe 1 0 (i. HasBegunWith (did.opening i) (did.number i) session s first mid
    (IsDeleteText c.args.place c.args.cube.now s) writer (AddsAtEpoch writer.epoch))
    (begun-at-epoch (g.P.CellCaller.opening old) (g.P.CellCaller.number old) session s
    (IsDeleteText c.args.place c.args.cube.now s) first (own old) mid writer begun did.left did.at_epoch)))
