use Rattle.core_changes.proofs.BegunChanges.{may-still, nothing-by-names}
use Rattle.core_changes.specs.ChangesUnderWay.{HasChangedNothing, MayChange}
use Rattle.core_deletes.specs.DeleteEnds.{AnswersAsDelete}
use Rattle.dropped_regions.specs.DeleteBoxes.{IsDeleteText}
use Rattle.core_deletes.proofs.bound.delete_knowing.Goals as goal

pub delete_box-requires-clause-may : goal.delete_box-requires-clause-may
delete_box-requires-clause-may g c =
    let did = c.box_of_delete.ensures in
    let old = c.args.caller.now in
    let mid = g.P.CellCaller.own c.box_of_delete.new.caller in
    let session = c.args.session.now in
    let shards = c.args.size.now.shards in
    coe 1 0 (i. MayChange (did.opening i) (did.number i) shards session mid)
    (may-still (g.P.CellCaller.opening old) (g.P.CellCaller.number old) shards session (g.P.CellCaller.own old) mid
    c.requires.may did.asks)

pub delete_box-requires-clause-told : goal.delete_box-requires-clause-told
delete_box-requires-clause-told g c = (c.box_of_delete.ensures.may.name, c.box_of_delete.ensures.may.cube)

pub returns-in-Ok-clause-answered : goal.returns-in-Ok-clause-answered
returns-in-Ok-clause-answered g c =
    let did = c.box_of_delete.ensures in
    let old = c.args.caller.now in
    let own = g.P.CellCaller.own in
    let mid = own c.box_of_delete.new.caller in
    let session = c.args.session.now in
    let s = c.args.statement.now in
    coe 0 1 (i. AnswersAsDelete (did.opening i) (did.number i) session s (own old) (own c.delete_box.new.caller) c.args.place
    c.args.cube.now c.delete_box.new.session c.delete_box.result)
    (c.delete_box.ensures.answered (own old)
    (coe 1 0 (i. HasChangedNothing (did.opening i) (did.number i) session s (own old) mid
    (IsDeleteText c.args.place c.args.cube.now s))
    (nothing-by-names (g.P.CellCaller.opening old) (g.P.CellCaller.number old) c.args.size.now.shards session (own old) mid
    c.requires.may did.asks s (IsDeleteText c.args.place c.args.cube.now s) did.asked)))

pub refuse_delete-requires-in-Err-NoMemory-clause-may : goal.refuse_delete-requires-in-Err-NoMemory-clause-may
refuse_delete-requires-in-Err-NoMemory-clause-may g c =
    let did = c.box_of_delete.ensures in
    let old = c.args.caller.now in
    let mid = g.P.CellCaller.own c.box_of_delete.new.caller in
    let session = c.args.session.now in
    let shards = c.args.size.now.shards in
    coe 1 0 (i. MayChange (did.opening i) (did.number i) shards session mid)
    (may-still (g.P.CellCaller.opening old) (g.P.CellCaller.number old) shards session (g.P.CellCaller.own old) mid
    c.requires.may did.asks)

pub returns-in-Err-Fault-clause-answered : goal.returns-in-Err-Fault-clause-answered
returns-in-Err-Fault-clause-answered g c =
    let did = c.box_of_delete.ensures in
    let old = c.args.caller.now in
    let own = g.P.CellCaller.own in
    let mid = own c.box_of_delete.new.caller in
    let session = c.args.session.now in
    let s = c.args.statement.now in
    coe 0 1 (i. AnswersAsDelete (did.opening i) (did.number i) session s (own old) (own c.refuse_delete.new.caller)
    c.args.place (c.decl-decl.ensures.decl i) session c.refuse_delete.result)
    (c.refuse_delete.ensures.answered (own old)
    (coe 1 0 (i. HasChangedNothing (did.opening i) (did.number i) session s (own old) mid
    (IsDeleteText c.args.place (c.decl-decl.ensures.decl i) s))
    (nothing-by-names (g.P.CellCaller.opening old) (g.P.CellCaller.number old) c.args.size.now.shards session (own old) mid
    c.requires.may did.asks s (IsDeleteText c.args.place c.args.cube.now s) did.asked)))

pub returns-in-Err-NoMemory-clause-answered : goal.returns-in-Err-NoMemory-clause-answered
returns-in-Err-NoMemory-clause-answered g c =
    let did = c.box_of_delete.ensures in
    let old = c.args.caller.now in
    let own = g.P.CellCaller.own in
    let mid = own c.box_of_delete.new.caller in
    let session = c.args.session.now in
    let s = c.args.statement.now in
    coe 0 1 (i. AnswersAsDelete (did.opening i) (did.number i) session s (own old) (own c.refuse_delete-in-Err-NoMemory.new.caller)
    c.args.place (c.decl-decl-in-Err-NoMemory.ensures.decl i) session c.refuse_delete-in-Err-NoMemory.result)
    (c.refuse_delete-in-Err-NoMemory.ensures.answered (own old)
    (coe 1 0 (i. HasChangedNothing (did.opening i) (did.number i) session s (own old) mid
    (IsDeleteText c.args.place (c.decl-decl-in-Err-NoMemory.ensures.decl i) s))
    (nothing-by-names (g.P.CellCaller.opening old) (g.P.CellCaller.number old) c.args.size.now.shards session (own old) mid
    c.requires.may did.asks s (IsDeleteText c.args.place c.args.cube.now s) did.asked)))
