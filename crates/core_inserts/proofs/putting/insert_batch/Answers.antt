use Rattle.core_changes.proofs.BegunChanges.{has-begun, nothing-then}
use Rattle.core_changes.specs.ChangesUnderWay.{HasBegunWith, HasChangedNothing}
use Rattle.core_inserts.proofs.BegunInserts.{still-told}
use Rattle.core_inserts.specs.InsertEnds.{IsInsertText, AnswersAsInsert, HasBatch, without_memory}
use Rattle.core_inserts.proofs.EndedInserts.{has-batch-later}
use Rattle.posted_pasts.specs.PostsAdded.{AddsNoOperation}
use Rattle.scripted_pasts.specs.Served.{IsServed}
use Rattle.core_inserts.proofs.putting.insert_batch.Goals as goal

pub begin_change-requires-clause-client : goal.begin_change-requires-clause-client
begin_change-requires-clause-client g c = c.requires.may.served.client

pub begin_change-requires-clause-session : goal.begin_change-requires-clause-session
begin_change-requires-clause-session g c = c.requires.may.served.is_session

pub begin_change-requires-clause-holds : goal.begin_change-requires-clause-holds
begin_change-requires-clause-holds g c = c.requires.may.holds

pub begin_change-requires-clause-may : goal.begin_change-requires-clause-may
begin_change-requires-clause-may g c = c.requires.may.active

pub insert_by-requires-clause-served : goal.insert_by-requires-clause-served
insert_by-requires-clause-served g c =
    let did = c.begin_change.ensures in
    coe 1 0 (i. IsServed (did.opening i) (did.number i) c.args.session.now.number c.args.size.now.shards)
    c.requires.may.served

pub insert_by-requires-clause-counted : goal.insert_by-requires-clause-counted
insert_by-requires-clause-counted g c = c.requires.may.counted

pub insert_by-requires-clause-told : goal.insert_by-requires-clause-told
insert_by-requires-clause-told g c =
    still-told (g.P.CellCaller.own c.args.caller.now) (g.P.CellCaller.own c.begin_change.new.caller) c.args.place
    c.args.cube.now c.begin_change.ensures.more c.requires.told

pub insert_by-requires-clause-batch : goal.insert_by-requires-clause-batch
insert_by-requires-clause-batch g c =
    let did = c.begin_change.ensures in
    let old = c.args.caller.now in
    let now = g.P.CellCaller.own c.begin_change.new.caller in
    coe 1 0 (i. HasBatch (did.opening i) (did.number i) now c.args.place c.args.cube.now c.args.statement.now
    c.args.rows)
    (has-batch-later (g.P.CellCaller.opening old) (g.P.CellCaller.number old) (g.P.CellCaller.own old) now c.args.place
    c.args.cube.now c.args.statement.now c.args.rows did.more c.requires.batch)

pub returns-in-Ok-clause-answered : goal.returns-in-Ok-clause-answered
returns-in-Ok-clause-answered g c = λ first nothing.
    let did = c.begin_change.ensures in
    let old = c.args.caller.now in
    let own = g.P.CellCaller.own in
    let mid = own c.begin_change.new.caller in
    let session = c.args.session.now in
    let writer = c.in-Ok.writer in
    let s = c.args.statement.now in
    coe 0 1 (i. AnswersAsInsert (did.opening i) (did.number i) session s first (own c.insert_by.new.caller) c.args.place
    c.args.cube.now c.insert_by.new.session c.insert_by.result)
    (c.insert_by.ensures.answered first
    (coe 1 0 (i. HasBegunWith (did.opening i) (did.number i) session s first mid
    (IsInsertText c.args.place c.args.cube.now s) writer AddsNoOperation)
    (has-begun (g.P.CellCaller.opening old) (g.P.CellCaller.number old) session s
    (IsInsertText c.args.place c.args.cube.now s) first (own old) mid writer nothing
    c.in-Ok.ensures.left)))

pub refuse_bound-requires-clause-may : goal.refuse_bound-requires-clause-may
refuse_bound-requires-clause-may g c =
    let did = c.begin_change.ensures in
    let session = c.args.session.now in
    record {
      served =
          coe 1 0 (i. IsServed (did.opening i) (did.number i) session.number c.args.size.now.shards)
          c.requires.may.served;
      holds = c.in-Err.ensures.kept;
      counted = c.requires.may.counted;
      active = c.requires.may.active;
    }

pub refuse_bound-requires-clause-why : goal.refuse_bound-requires-clause-why
refuse_bound-requires-clause-why g c = without_memory

pub returns-in-Err-clause-answered : goal.returns-in-Err-clause-answered
returns-in-Err-clause-answered g c = λ first nothing.
    let did = c.begin_change.ensures in
    let old = c.args.caller.now in
    let own = g.P.CellCaller.own in
    let mid = own c.begin_change.new.caller in
    let session = c.args.session.now in
    let s = c.args.statement.now in
    coe 0 1 (i. AnswersAsInsert (did.opening i) (did.number i) session s first (own c.refuse_bound.new.caller)
    c.args.place c.args.cube.now session c.refuse_bound.result)
    (c.refuse_bound.ensures.answered first
    (coe 1 0 (i. HasChangedNothing (did.opening i) (did.number i) session s first mid
    (IsInsertText c.args.place c.args.cube.now s))
    (nothing-then (g.P.CellCaller.opening old) (g.P.CellCaller.number old) session s
    (IsInsertText c.args.place c.args.cube.now s) first (own old) mid nothing
    c.in-Err.ensures.none)))
