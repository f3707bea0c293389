use Rattle.std.proofs.Common.{[], ap, sym, ◌∙◌}
use Rattle.std.proofs.lemmas.List.{get_or_read}
use Rattle.cube_language.specs.RowFaults.{row_fault}
use Rattle.row_encoding.proofs.InsertRows.{grown_by_rows, one_row_coded, one_row_lacks, row_fits}
use Rattle.row_encoding.proofs.rows.encode_rows.Goals as goal

pub encode_row-requires-clause-fit : goal.encode_row-requires-clause-fit
encode_row-requires-clause-fit g c =
    let at = c.as_slice.ensures ∙ get_or_read c.args.rows.now c.rows.values-index c.values-item.result c.rows-test.true c.values-item.is [] in
    ap (row_fault c.args.cube.now) at ∙ row_fits 1 c.args.cube.now c.args.rows.now c.rows.values-index c.requires.fit c.rows-test.true

pub returns-in_err-lacking-clause-grow : goal.returns-in_err-lacking-clause-grow
returns-in_err-lacking-clause-grow g c =
    let at = c.as_slice.ensures ∙ get_or_read c.args.rows.now c.rows.values-index c.values-item.result c.rows-test.true c.values-item.is [] in
    grown_by_rows g.E.Encoder.may_end g.E.Encoder.suits g.E.Encoder.has_name g.E.Encoder.keeps g.E.Encoder.has_given g.met.E.Encoder.carries_on c.args.place c.args.cube.now c.args.rows.now _ c.args.encoder.now c.rows.encoder c.encode_row.new.encoder
    c.rows.batch c.rows.values-index c.as_slice.result.now c.rows.invariant c.rows-test.true at c.encode_row.ensures.grow

pub returns-in_err-text_at-clause-grow : goal.returns-in_err-text_at-clause-grow
returns-in_err-text_at-clause-grow g c =
    let at = c.as_slice.ensures ∙ get_or_read c.args.rows.now c.rows.values-index c.values-item.result c.rows-test.true c.values-item.is [] in
    grown_by_rows g.E.Encoder.may_end g.E.Encoder.suits g.E.Encoder.has_name g.E.Encoder.keeps g.E.Encoder.has_given g.met.E.Encoder.carries_on c.args.place c.args.cube.now c.args.rows.now _ c.args.encoder.now c.rows.encoder c.encode_row.new.encoder
    c.rows.batch c.rows.values-index c.as_slice.result.now c.rows.invariant c.rows-test.true at c.encode_row.ensures.grow

pub returns-in-Some-clause-grow : goal.returns-in-Some-clause-grow
returns-in-Some-clause-grow g c =
    let at = c.as_slice.ensures ∙ get_or_read c.args.rows.now c.rows.values-index c.values-item.result c.rows-test.true c.values-item.is [] in
    grown_by_rows g.E.Encoder.may_end g.E.Encoder.suits g.E.Encoder.has_name g.E.Encoder.keeps g.E.Encoder.has_given g.met.E.Encoder.carries_on c.args.place c.args.cube.now c.args.rows.now _ c.args.encoder.now c.rows.encoder c.encode_row.new.encoder
    c.rows.batch c.rows.values-index c.as_slice.result.now c.rows.invariant c.rows-test.true at c.encode_row.ensures.grow

pub returns-in-Some-clause-rows : goal.returns-in-Some-clause-rows
returns-in-Some-clause-rows g c =
    let at = c.as_slice.ensures ∙ get_or_read c.args.rows.now c.rows.values-index c.values-item.result c.rows-test.true c.values-item.is [] in
    one_row_lacks g.E.Encoder.may_end g.E.Encoder.suits g.E.Encoder.has_name g.E.Encoder.keeps g.E.Encoder.has_given g.met.E.Encoder.carries_on c.args.place c.args.cube.now c.args.rows.now _ c.args.encoder.now c.rows.encoder c.encode_row.new.encoder
    c.rows.batch c.rows.values-index c.in-Some.dim c.as_slice.result.now c.encode_row.new.scratch.coords.items c.in_ok-text_at.field-0 c.rows.invariant c.rows-test.true at
    (rw c.in-Some.is at c.in_ok-lacking.ensures.coords) (rw (c.as_slice-in-Some.ensures ∙ sym c.as_slice.ensures) at c.in_ok-text_at.ensures) c.encode_row.ensures.grow

pub rows-preserved : goal.rows-preserved
rows-preserved g c =
    let at = c.as_slice.ensures ∙ get_or_read c.args.rows.now c.rows.values-index c.values-item.result c.rows-test.true c.values-item.is [] in
    one_row_coded g.E.Encoder.may_end g.E.Encoder.suits g.E.Encoder.has_name g.E.Encoder.keeps g.E.Encoder.has_given g.met.E.Encoder.carries_on c.args.place c.args.cube.now c.args.rows.now _ c.args.encoder.now c.rows.encoder c.encode_row.new.encoder
    c.rows.batch c.encode_row.new.batch c.rows.values-index c.as_slice.result.now c.encode_row.new.scratch.coords.items c.encode_row.new.scratch.metrics.items c.rows.invariant c.rows-test.true at
    (rw c.in_default.is at c.in_ok-lacking.ensures.coords) (rw c.in_default.is at c.in_ok-lacking.ensures.metrics) (rw c.in_default.is at c.in_ok-lacking.ensures.pushed)
    (rw c.in_default.is at c.in_ok-lacking.ensures.inside) (rw c.in_default.is at c.in_ok-lacking.ensures.numbers) c.encode_row.ensures.grow
