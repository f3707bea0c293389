use Rattle.std.proofs.Common.{◌+◌, length, get_or, sym, ap, ◌∙◌, arith}
use Rattle.std.proofs.lemmas.List.Elements.{length_all_zip}
use Rattle.packed_words.specs.Rows.{number_in_rows}
use Rattle.brick_columns.specs.Rows.{BrickRows, IsWidth, offset_at, row_at}
use Rattle.brick_columns.specs.Whole.{rows_in}
use Rattle.brick_columns.proofs.WholeRows.{seen_length, few_cells, offset_rows, offsets_of_row}
use Rattle.brick_columns.proofs.columns.Columns.count_in_cells.Goals as goal

pub count_in_cells-requires-clause-rows : goal.count_in_cells-requires-clause-rows
count_in_cells-requires-clause-rows c =
    omega (arith, c.requires.rows, seen_length c.self.inside c.args.self.now c.self.invariant c.self.view_is, c.self.invariant.long)

pub count_in_cells-requires-clause-number : goal.count_in_cells-requires-clause-number
count_in_cells-requires-clause-number c =
    let old = c.self.inside in
    let dims = ap (λ (v : BrickRows). length v.layout.ranges) c.self.view_is in
    omega (arith, c.requires.dim, dims, length_all_zip IsWidth old.ranges.items old.offsets.widths c.self.invariant.widths)

pub count_in_cells-requires-clause-cells : goal.count_in_cells-requires-clause-cells
count_in_cells-requires-clause-cells c =
    let old = c.self.inside in
    let dims = ap (λ (v : BrickRows). length v.layout.ranges) c.self.view_is in
    let long = length_all_zip IsWidth old.ranges.items old.offsets.widths c.self.invariant.widths in
    let range = ap (λ (v : BrickRows). get_or v.layout.ranges c.args.dim 0) c.self.view_is in
    omega (arith, few_cells old.ranges.items old.offsets.widths c.args.dim c.self.invariant.widths (omega (arith, c.requires.dim, dims, long)) (omega (arith, range, c.requires.range)))

pub returns-clause-counted : goal.returns-clause-counted
returns-clause-counted c = λ cells size are.
    let old = c.self.inside in
    c.count_in_cells.ensures.counted cells size
    (λ k h.
    are k h
    ∙ sym
    (ap (λ rows. number_in_rows rows (c.args.from + k) c.args.dim) (sym (offset_rows old c.self.invariant))
    ∙ ap (λ offsets. get_or offsets c.args.dim 0) (offsets_of_row (rows_in old) (c.args.from + k))
    ∙ ap (λ (v : BrickRows). offset_at c.args.dim (row_at v.rows (c.args.from + k))) c.self.view_is))
