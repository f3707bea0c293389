use Rattle.core_agreements.specs.PostsForOperations.{batches_posted}
use Rattle.core_changes.proofs.BegunChanges.{begun-at-epoch, begun-with-operations}
use Rattle.core_changes.specs.ChangesUnderWay.{HasBegunWith}
use Rattle.core_inserts.proofs.BegunInserts.{still-told}
use Rattle.core_inserts.proofs.EndedInserts.{has-batch-later}
use Rattle.core_inserts.specs.InsertEnds.{IsInsertText, AnswersAsInsert, HasBatch, posted_batches}
use Rattle.posted_pasts.specs.PostsAdded.{AddsAtEpoch, AddsOperations}
use Rattle.scripted_pasts.specs.Served.{IsServed}
use Rattle.core_inserts.proofs.putting.insert_by.Goals as goal

pub failure_of_put-requires-clause-rows : goal.failure_of_put-requires-clause-rows
failure_of_put-requires-clause-rows g c = c.requires.batch.rows.told

pub finish_insert-requires-clause-served : goal.finish_insert-requires-clause-served
finish_insert-requires-clause-served g c =
    let did = c.failure_of_put.ensures in
    coe 1 0 (i. IsServed (did.opening i) (did.number i) c.args.session.now.number c.args.size.now.shards)
    c.requires.served

pub finish_insert-requires-clause-told : goal.finish_insert-requires-clause-told
finish_insert-requires-clause-told g c =
    still-told (g.P.CellCaller.own c.args.caller.now) (g.P.CellCaller.own c.failure_of_put.new.caller) c.args.place
    c.args.cube.now c.failure_of_put.ensures.left.left.more c.requires.told

pub returns-in-None-clause-answered : goal.returns-in-None-clause-answered
returns-in-None-clause-answered g c = λ first begun.
    let did = c.failure_of_put.ensures in
    let old = c.args.caller.now in
    let own = g.P.CellCaller.own in
    let mid = own c.failure_of_put.new.caller in
    let session = c.args.session.now in
    let writer = c.args.writer.now in
    let s = c.args.statement.now in
    let d = c.args.cube.now in
    let place = c.args.place in
    let posts = batches_posted (posted_batches d c.args.size.now.shards place writer.epoch c.args.rows.rows) in
    coe 0 1 (i. AnswersAsInsert (did.opening i) (did.number i) session s first (own c.finish_insert.new.caller) place d
    c.finish_insert.new.session c.finish_insert.result)
    (c.finish_insert.ensures.answered first c.args.rows
    (coe 1 0 (i. HasBatch (did.opening i) (did.number i) mid place d s c.args.rows)
    (has-batch-later (g.P.CellCaller.opening old) (g.P.CellCaller.number old) (own old) mid place d s c.args.rows
    did.left.left.more c.requires.batch))
    (coe 1 0 (i. HasBegunWith (did.opening i) (did.number i) session s first mid (IsInsertText place d s) writer
    (AddsOperations place writer.epoch posts))
    (begun-with-operations (g.P.CellCaller.opening old) (g.P.CellCaller.number old) session s (IsInsertText place d s)
    first (own old) mid writer
    begun did.left place posts c.in-None.ensures.operations)))

pub fail_insert-requires-clause-served : goal.fail_insert-requires-clause-served
fail_insert-requires-clause-served g c =
    let did = c.failure_of_put.ensures in
    coe 1 0 (i. IsServed (did.opening i) (did.number i) c.args.session.now.number c.args.size.now.shards)
    c.requires.served

pub returns-in-Some-clause-answered : goal.returns-in-Some-clause-answered
returns-in-Some-clause-answered g c = λ first begun.
    let did = c.failure_of_put.ensures in
    let old = c.args.caller.now in
    let own = g.P.CellCaller.own in
    let mid = own c.failure_of_put.new.caller in
    let session = c.args.session.now in
    let writer = c.args.writer.now in
    let s = c.args.statement.now in
    let d = c.args.cube.now in
    let place = c.args.place in
    coe 0 1 (i. AnswersAsInsert (did.opening i) (did.number i) session s first (own c.fail_insert.new.caller) place d
    c.fail_insert.new.session c.fail_insert.result)
    (c.fail_insert.ensures.answered first c.args.rows
    (coe 1 0 (i. HasBatch (did.opening i) (did.number i) mid place d s c.args.rows)
    (has-batch-later (g.P.CellCaller.opening old) (g.P.CellCaller.number old) (own old) mid place d s c.args.rows
    did.left.left.more c.requires.batch))
    (coe 1 0 (i. HasBegunWith (did.opening i) (did.number i) session s first mid (IsInsertText place d s) writer
    (AddsAtEpoch writer.epoch))
    (begun-at-epoch (g.P.CellCaller.opening old) (g.P.CellCaller.number old) session s (IsInsertText place d s) first
    (own old) mid writer begun
    did.left did.at_epoch)))
