use Rattle.std.proofs.Common.{◌≡◌, List, None, sym, subst}
use Rattle.core_changes.proofs.BegunChanges.{may-still, nothing-by-names, nothing-yet}
use Rattle.core_changes.specs.ChangesUnderWay.{HasChangedNothing, MayChange}
use Rattle.core_inserts.proofs.BegunInserts.{fits-rows, its-texts, still-told}
use Rattle.inserted_rows.proofs.TextsOn.{names_go_on}
use Rattle.core_inserts.specs.InsertEnds.{IsInsertText, AnswersAsInsert, without_memory}
use Rattle.cube_language.specs.RowFaults.{first_bad_row}
use Rattle.cube_values.specs.declared.value.Value.{Value}
use Rattle.inserted_rows.specs.RowsInTheEnd.{AreEncodedRows}
use Rattle.core_inserts.proofs.bound.insert_fitting.Goals as goal

pub encode_inserted-requires-clause-client : goal.encode_inserted-requires-clause-client
encode_inserted-requires-clause-client g c = c.requires.may.served.client

pub encode_inserted-requires-clause-session : goal.encode_inserted-requires-clause-session
encode_inserted-requires-clause-session g c = c.requires.may.served.is_session

pub encode_inserted-requires-clause-storable : goal.encode_inserted-requires-clause-storable
encode_inserted-requires-clause-storable g c = c.requires.may.served.storable

pub encode_inserted-requires-clause-named : goal.encode_inserted-requires-clause-named
encode_inserted-requires-clause-named g c = c.requires.may.served.named

pub encode_inserted-requires-clause-fit : goal.encode_inserted-requires-clause-fit
encode_inserted-requires-clause-fit g c =
    subst (λ (rows : List (List Value)). first_bad_row c.args.cube.now rows ≡ None) (sym c.inserted_rows-rows.ensures)
    (fits-rows c.args.cube.now c.args.statement.now c.requires.fits)

pub insert_encoded-requires-clause-may : goal.insert_encoded-requires-clause-may
insert_encoded-requires-clause-may g c =
    let did = c.encode_inserted.ensures in
    let old = c.args.caller.now in
    let mid = g.P.CellCaller.own c.encode_inserted.new.caller in
    let session = c.args.session.now in
    let shards = c.args.size.now.shards in
    coe 1 0 (i. MayChange (did.opening i) (did.number i) shards session mid)
    (may-still (g.P.CellCaller.opening old) (g.P.CellCaller.number old) shards session (g.P.CellCaller.own old) mid
    c.requires.may did.asks)

pub insert_encoded-requires-clause-told : goal.insert_encoded-requires-clause-told
insert_encoded-requires-clause-told g c =
    let old = c.args.caller.now in
    let own = g.P.CellCaller.own old in
    let mid = g.P.CellCaller.own c.encode_inserted.new.caller in
    still-told own mid c.args.place c.args.cube.now
    (names_go_on (g.P.CellCaller.number old) own mid c.encode_inserted.ensures.asks) c.requires.told

pub insert_encoded-requires-clause-rows : goal.insert_encoded-requires-clause-rows
insert_encoded-requires-clause-rows g c =
    let mid = c.encode_inserted.new.caller in
    subst (λ (rows : List (List Value)). AreEncodedRows (g.P.CellCaller.opening mid) (g.P.CellCaller.number mid)
    (g.P.CellCaller.own mid) c.args.place c.args.cube.now rows c.in-Ok.encoded) c.inserted_rows-rows.ensures
    c.in-Ok.ensures.rows

pub returns-in-Ok-clause-answered : goal.returns-in-Ok-clause-answered
returns-in-Ok-clause-answered g c =
    let did = c.encode_inserted.ensures in
    let old = c.args.caller.now in
    let own = g.P.CellCaller.own in
    let mid = own c.encode_inserted.new.caller in
    let session = c.args.session.now in
    let s = c.args.statement.now in
    coe 0 1 (i. AnswersAsInsert (did.opening i) (did.number i) session s (own old) (own c.insert_encoded.new.caller)
    c.args.place c.args.cube.now c.insert_encoded.new.session c.insert_encoded.result)
    (c.insert_encoded.ensures.answered (own old)
    (coe 1 0 (i. HasChangedNothing (did.opening i) (did.number i) session s (own old) mid
    (IsInsertText c.args.place c.args.cube.now c.args.statement.now))
    (nothing-by-names (g.P.CellCaller.opening old) (g.P.CellCaller.number old) c.args.size.now.shards session (own old)
    mid c.requires.may did.asks s (IsInsertText c.args.place c.args.cube.now c.args.statement.now)
    (its-texts (own old) mid c.args.place c.args.cube.now c.args.statement.now c.requires.fits
    c.inserted_rows-rows.ensures did.asked))))

pub returns-in-Ok-clause-texts : goal.returns-in-Ok-clause-texts
returns-in-Ok-clause-texts g c =
    let mid = c.encode_inserted.new.caller in
    let own = g.P.CellCaller.own in
    c.told_texts_stay_told.ensures (own mid) (own c.insert_encoded.new.caller) c.encode_inserted.new.texts
    (c.insert_encoded.ensures.answered (own mid)
    (nothing-yet (g.P.CellCaller.opening mid) (g.P.CellCaller.number mid) c.args.session.now c.args.statement.now
    (IsInsertText c.args.place c.args.cube.now c.args.statement.now) (own mid))).more c.encode_inserted.ensures.texts

pub refuse_bound-requires-clause-may : goal.refuse_bound-requires-clause-may
refuse_bound-requires-clause-may g c =
    let did = c.encode_inserted.ensures in
    let old = c.args.caller.now in
    let mid = g.P.CellCaller.own c.encode_inserted.new.caller in
    let session = c.args.session.now in
    let shards = c.args.size.now.shards in
    coe 1 0 (i. MayChange (did.opening i) (did.number i) shards session mid)
    (may-still (g.P.CellCaller.opening old) (g.P.CellCaller.number old) shards session (g.P.CellCaller.own old) mid
    c.requires.may did.asks)

pub refuse_bound-requires-clause-why : goal.refuse_bound-requires-clause-why
refuse_bound-requires-clause-why g c = without_memory

pub returns-in-Err-clause-answered : goal.returns-in-Err-clause-answered
returns-in-Err-clause-answered g c =
    let did = c.encode_inserted.ensures in
    let old = c.args.caller.now in
    let own = g.P.CellCaller.own in
    let mid = own c.encode_inserted.new.caller in
    let session = c.args.session.now in
    let s = c.args.statement.now in
    coe 0 1 (i. AnswersAsInsert (did.opening i) (did.number i) session s (own old) (own c.refuse_bound.new.caller)
    c.args.place c.args.cube.now session c.refuse_bound.result)
    (c.refuse_bound.ensures.answered (own old)
    (coe 1 0 (i. HasChangedNothing (did.opening i) (did.number i) session s (own old) mid
    (IsInsertText c.args.place c.args.cube.now c.args.statement.now))
    (nothing-by-names (g.P.CellCaller.opening old) (g.P.CellCaller.number old) c.args.size.now.shards session (own old)
    mid c.requires.may did.asks s (IsInsertText c.args.place c.args.cube.now c.args.statement.now)
    (its-texts (own old) mid c.args.place c.args.cube.now c.args.statement.now c.requires.fits
    c.inserted_rows-rows.ensures did.asked))))

pub returns-in-Err-clause-texts : goal.returns-in-Err-clause-texts
returns-in-Err-clause-texts g c =
    let mid = c.encode_inserted.new.caller in
    let own = g.P.CellCaller.own in
    c.told_texts_stay_told.ensures (own mid) (own c.refuse_bound.new.caller) c.encode_inserted.new.texts
    (c.refuse_bound.ensures.answered (own mid)
    (nothing-yet (g.P.CellCaller.opening mid) (g.P.CellCaller.number mid) c.args.session.now c.args.statement.now
    (IsInsertText c.args.place c.args.cube.now c.args.statement.now) (own mid))).more c.encode_inserted.ensures.texts
