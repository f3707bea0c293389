use Rattle.std.proofs.Common.{◌+◌, length, get_or, sym, ap, ◌∙◌, arith}
use Rattle.std.proofs.lemmas.List.Elements.{length_all_zip}
use Rattle.packed_words.specs.Rows.{number_in_rows}
use Rattle.brick_columns.specs.Rows.{BrickRows, IsWidth, offset_at, row_at}
use Rattle.brick_columns.specs.Whole.{rows_in}
use Rattle.brick_columns.proofs.WholeRows.{seen_length, offset_rows, offsets_of_row}
use Rattle.brick_columns.proofs.columns.Columns.read_offsets.Goals as goal

pub read_numbers-requires-clause-rows : goal.read_numbers-requires-clause-rows
read_numbers-requires-clause-rows c =
    omega (arith, c.requires.rows, seen_length c.self.inside c.args.self.now c.self.invariant c.self.view_is, c.self.invariant.long)

pub read_numbers-requires-clause-number : goal.read_numbers-requires-clause-number
read_numbers-requires-clause-number c =
    let old = c.self.inside in
    let dims = ap (λ (v : BrickRows). length v.layout.ranges) c.self.view_is in
    omega (arith, c.requires.dim, dims, length_all_zip IsWidth old.ranges.items old.offsets.widths c.self.invariant.widths)

pub returns : goal.returns
returns c = λ k h.
    let old = c.self.inside in
    c.read_numbers.ensures k h
    ∙ ap (λ rows. number_in_rows rows (c.args.from + k) c.args.dim) (sym (offset_rows old c.self.invariant))
    ∙ ap (λ offsets. get_or offsets c.args.dim 0) (offsets_of_row (rows_in old) (c.args.from + k))
    ∙ ap (λ (v : BrickRows). offset_at c.args.dim (row_at v.rows (c.args.from + k))) c.self.view_is
