use Rattle.std.proofs.Common.{◌∙◌, ap, length}
use Rattle.cube_language.specs.declared.decl.Decl.{Decl}
use Rattle.cube_values.specs.Batches.{Batch}
use Rattle.inserted_rows.proofs.EncodedBatches.{batch-for, lacking-for}
use Rattle.inserted_rows.proofs.encoding.encode_by_known.Goals as goal

pub returns-in-None-clause-rows : goal.returns-in-None-clause-rows
returns-in-None-clause-rows g c =
    let new = c.encode_rows_by_caller.new.caller in
    let coded = c.in_ok-encode_rows_by_caller.ensures in
    batch-for (g.P.CellCaller.opening new) (g.P.CellCaller.number new) (g.P.CellCaller.own new) c.args.place
    c.args.cube.now c.args.rows.now c.encode_rows_by_caller.new.batch c.in_ok-encode_rows_by_caller.field-0 c.in-None.is
    (c.encode_rows_by_caller.ensures.dims ∙ ap (λ (b : Batch). b.dims) c.new-batch.ensures ∙ c.len.ensures
    ∙ ap (λ (d : Decl). length d.dims) c.decl-decl.ensures.decl)
    (c.encode_rows_by_caller.ensures.width ∙ ap (λ (b : Batch). b.width) c.new-batch.ensures ∙ c.len-2.ensures
    ∙ ap (λ (d : Decl). length d.metrics) c.decl-decl.ensures.decl)
    coded.inside coded.told coded.rows

pub returns-in-Some-clause-rows : goal.returns-in-Some-clause-rows
returns-in-Some-clause-rows g c =
    let new = c.encode_rows_by_caller.new.caller in
    lacking-for (g.P.CellCaller.opening new) (g.P.CellCaller.number new) (g.P.CellCaller.own new) c.args.place
    c.args.cube.now c.args.rows.now c.encode_rows_by_caller.new.batch c.in_ok-encode_rows_by_caller.field-0
    c.in-Some.text c.in-Some.is c.in_ok-encode_rows_by_caller.ensures.rows
