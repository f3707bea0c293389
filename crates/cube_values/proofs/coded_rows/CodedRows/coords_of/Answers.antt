use Rattle.std.proofs.Common.{length, ◌<◌, ap, sym, ◌∙◌, arith}
use Rattle.cube_values.specs.declared.row.CodedRow.{CodedRow}
use Rattle.cube_values.specs.Batches.{Batch, coded_row_at, nth_part}
use Rattle.cube_values.proofs.FlatRows.{length_flat, part_within, row_of_flat}
use Rattle.cube_values.proofs.coded_rows.CodedRows.coords_of.Goals as goal

pub part_of-requires : goal.part_of-requires
part_of-requires c =
    let b = c.self.inside in
    let h : c.args.i < b.rows = omega (arith, c.requires, length_flat b.dims b.width b.coords.items b.metrics.items b.rows, ap (λ (v : Batch). length v.rows) c.self.view_is) in
    omega (arith, ap length c.as_slice.ensures.value, c.self.invariant.1.long, part_within b.dims b.rows c.args.i h)

pub returns : goal.returns
returns c =
    let b = c.self.inside in
    let h : c.args.i < b.rows = omega (arith, c.requires, length_flat b.dims b.width b.coords.items b.metrics.items b.rows, ap (λ (v : Batch). length v.rows) c.self.view_is) in
    let e = row_of_flat b.dims b.width b.coords.items b.metrics.items b.rows c.args.i h in
    c.part_of.ensures ∙ ap (λ xs. nth_part b.dims xs c.args.i) c.as_slice.ensures.value ∙ sym (ap (λ (r : CodedRow). r.coords) e) ∙ ap (λ (v : Batch). (coded_row_at v.rows c.args.i).coords) c.self.view_is
