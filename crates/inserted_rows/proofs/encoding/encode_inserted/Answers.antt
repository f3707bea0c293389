use Rattle.std.proofs.Common.{rules}
use Rattle.inserted_rows.proofs.EncodedBatches.{may-ask, put-back-told}
use Rattle.inserted_rows.proofs.encoding.encode_inserted.Goals as goal

pub encode_by_known-encoded-requires-clause-may : goal.encode_by_known-encoded-requires-clause-may
encode_by_known-encoded-requires-clause-may g c =
    let old = c.args.caller.now in
    let own = g.P.CellCaller.own old in
    may-ask (g.P.CellCaller.opening old) (g.P.CellCaller.number old) c.args.session c.args.place own c.args.cube.now _ _
    c.requires.client c.requires.session c.requires.storable c.requires.named c.requires.told
    (c.in_ok-taken.ensures.told own c.requires.texts) (search rules)

pub returns-clause-texts : goal.returns-clause-texts
returns-clause-texts g c =
    let old = c.args.caller.now in
    let own = g.P.CellCaller.own old in
    let may = c.encode_by_known-encoded.ensures.may in
    put-back-told (g.P.CellCaller.number old) c.args.place own
    (g.P.CellCaller.own c.encode_by_known-encoded.new.caller) _ _ _ _ c.args.cube.now.dims c.put_back.ensures.kept c.encode_by_known-encoded.ensures.asks
    (c.in_ok-taken.ensures.still own c.requires.texts) c.in_ok-taken.ensures.sizes may.long may.right (search rules)
