use Rattle.std.proofs.Common.{take, length, ap, sym, ◌∙◌}
use Rattle.cube_language.specs.declared.decl.Decl.{Decl}
use Rattle.row_encoding.proofs.InsertRows.{fit_dims, front_grow, front_has_text}
use Rattle.row_encoding.proofs.RowCoords.{coords_long}
use Rattle.row_encoding.proofs.rows.encode_row.Goals as goal

pub encode_values-requires-clause-fit : goal.encode_values-requires-clause-fit
encode_values-requires-clause-fit g c =
    rw (c.split_at.ensures.front ∙ ap (λ n. take n c.args.values.now) (c.len.ensures ∙ ap (λ (d : Decl). length d.dims) c.decl.ensures.decl))
    (fit_dims c.args.cube.now c.args.values.now c.requires.fit)

pub returns-in_err-dim-clause-grow : goal.returns-in_err-dim-clause-grow
returns-in_err-dim-clause-grow g c = front_grow c.len.result c.args.values.now c.split_at.result.0.now c.split_at.ensures.front c.encode_values.ensures.grow

pub returns-in-Some-clause-text : goal.returns-in-Some-clause-text
returns-in-Some-clause-text g c =
    front_has_text c.len.result c.args.values.now c.split_at.result.0.now c.in-Some.dim c.split_at.ensures.front (rw c.in-Some.is at c.in_ok-dim.ensures.text)

pub returns-in-Some-clause-grow : goal.returns-in-Some-clause-grow
returns-in-Some-clause-grow g c = front_grow c.len.result c.args.values.now c.split_at.result.0.now c.split_at.ensures.front c.encode_values.ensures.grow

pub returns-in_err-put_metrics-clause-grow : goal.returns-in_err-put_metrics-clause-grow
returns-in_err-put_metrics-clause-grow g c = front_grow c.len.result c.args.values.now c.split_at.result.0.now c.split_at.ensures.front c.encode_values.ensures.grow

pub push-requires-clause-coords : goal.push-requires-clause-coords
push-requires-clause-coords g c =
    rw c.as_slice.ensures.value (coords_long c.args.cube.now.dims c.encode_values.new.coords.items (rw c.in_default.is at c.in_ok-dim.ensures.inside) ∙ sym c.requires.dims)

pub returns-clause-grow : goal.returns-clause-grow
returns-clause-grow g c = front_grow c.len.result c.args.values.now c.split_at.result.0.now c.split_at.ensures.front c.encode_values.ensures.grow
