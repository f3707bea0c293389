use Rattle.std.proofs.Common.{inl, refl}
use Rattle.core_changes.proofs.BegunChanges.{has-begun, nothing-then}
use Rattle.core_deletes.proofs.BegunDeletes.{still-told}
use Rattle.core_changes.specs.ChangesUnderWay.{HasBegunWith, HasChangedNothing}
use Rattle.core_deletes.specs.DeleteEnds.{AnswersAsDelete}
use Rattle.dropped_regions.proofs.BoxesOfPlans.{box-later}
use Rattle.dropped_regions.specs.DeleteBoxes.{IsBoxOf, IsDeleteText}
use Rattle.linked_shards.specs.CellShards.{CoreShardStands}
use Rattle.posted_pasts.specs.PostsAdded.{AddsNoOperation}
use Rattle.scripted_pasts.specs.Served.{IsServed}
use Rattle.shard_events.specs.ShardsInRuns.{FitsShard, ShardAnswerSays}
use Rattle.core_deletes.proofs.dropping.delete_box.Goals as goal

pub begin_change-requires-clause-client : goal.begin_change-requires-clause-client
begin_change-requires-clause-client g c = c.requires.may.served.client

pub begin_change-requires-clause-session : goal.begin_change-requires-clause-session
begin_change-requires-clause-session g c = c.requires.may.served.is_session

pub begin_change-requires-clause-holds : goal.begin_change-requires-clause-holds
begin_change-requires-clause-holds g c = c.requires.may.holds

pub begin_change-requires-clause-may : goal.begin_change-requires-clause-may
begin_change-requires-clause-may g c = c.requires.may.active

pub delete_by-requires-clause-served : goal.delete_by-requires-clause-served
delete_by-requires-clause-served g c =
    let did = c.begin_change.ensures in
    coe 1 0 (i. IsServed (did.opening i) (did.number i) c.args.session.now.number c.args.size.now.shards)
    c.requires.may.served

pub delete_by-requires-clause-counted : goal.delete_by-requires-clause-counted
delete_by-requires-clause-counted g c = c.requires.may.counted

pub delete_by-requires-clause-told : goal.delete_by-requires-clause-told
delete_by-requires-clause-told g c =
    still-told (g.P.CellCaller.own c.args.caller.now) (g.P.CellCaller.own c.begin_change.new.caller) c.args.place
    c.args.cube.now c.begin_change.ensures.more c.requires.told

pub delete_by-requires-clause-is_box : goal.delete_by-requires-clause-is_box
delete_by-requires-clause-is_box g c =
    let did = c.begin_change.ensures in
    let old = c.args.caller.now in
    let now = g.P.CellCaller.own c.begin_change.new.caller in
    coe 1 0 (i. IsBoxOf FitsShard CoreShardStands ShardAnswerSays (did.opening i) (did.number i) now c.args.place
    c.args.cube.now c.args.statement.now c.args.span.now)
    (box-later FitsShard CoreShardStands ShardAnswerSays (g.P.CellCaller.opening old) (g.P.CellCaller.number old)
    (g.P.CellCaller.own old) c.args.place c.args.cube.now now c.args.statement.now c.args.span.now did.more
    c.requires.is_box)

pub returns-in-Ok-clause-answered : goal.returns-in-Ok-clause-answered
returns-in-Ok-clause-answered g c = λ first nothing.
    let did = c.begin_change.ensures in
    let old = c.args.caller.now in
    let own = g.P.CellCaller.own in
    let mid = own c.begin_change.new.caller in
    let session = c.args.session.now in
    let writer = c.in-Ok.writer in
    let s = c.args.statement.now in
    coe 0 1 (i. AnswersAsDelete (did.opening i) (did.number i) session s first (own c.delete_by.new.caller) c.args.place
    c.args.cube.now c.delete_by.new.session c.delete_by.result)
    (c.delete_by.ensures.answered first
    (coe 1 0 (i. HasBegunWith (did.opening i) (did.number i) session s first mid
    (IsDeleteText c.args.place c.args.cube.now s) writer AddsNoOperation)
    (has-begun (g.P.CellCaller.opening old) (g.P.CellCaller.number old) session s
    (IsDeleteText c.args.place c.args.cube.now s) first (own old) mid writer nothing c.in-Ok.ensures.left)))

pub refuse_delete-requires-clause-may : goal.refuse_delete-requires-clause-may
refuse_delete-requires-clause-may g c =
    let did = c.begin_change.ensures in
    let session = c.args.session.now in
    record {
      served =
          coe 1 0 (i. IsServed (did.opening i) (did.number i) session.number c.args.size.now.shards)
          c.requires.may.served;
      holds = c.in-Err.ensures.kept;
      counted = c.requires.may.counted;
      active = c.requires.may.active;
    }

pub refuse_delete-requires-clause-why : goal.refuse_delete-requires-clause-why
refuse_delete-requires-clause-why g c = inl refl

pub returns-in-Err-clause-answered : goal.returns-in-Err-clause-answered
returns-in-Err-clause-answered g c = λ first nothing.
    let did = c.begin_change.ensures in
    let old = c.args.caller.now in
    let own = g.P.CellCaller.own in
    let mid = own c.begin_change.new.caller in
    let session = c.args.session.now in
    let s = c.args.statement.now in
    coe 0 1 (i. AnswersAsDelete (did.opening i) (did.number i) session s first (own c.refuse_delete.new.caller) c.args.place
    (c.decl-decl.ensures.decl i) session c.refuse_delete.result)
    (c.refuse_delete.ensures.answered first
    (coe 1 0 (i. HasChangedNothing (did.opening i) (did.number i) session s first mid
    (IsDeleteText c.args.place (c.decl-decl.ensures.decl i) s))
    (nothing-then (g.P.CellCaller.opening old) (g.P.CellCaller.number old) session s
    (IsDeleteText c.args.place c.args.cube.now s) first (own old) mid nothing c.in-Err.ensures.none)))
