use Rattle.std.proofs.Common.{take, sum, ap, ◌∙◌, arith}
use Rattle.std.proofs.lemmas.List.Sums.{sum_by-take-le}
use Rattle.packed_words.specs.Rows.{NumberRows}
use Rattle.packed_words.proofs.packed_rows.PackedRows.bits_before.Goals as goal

pub total-requires : goal.total-requires
total-requires c =
    let widths = c.self.inside.widths.items in
    let start = ap (λ ws. sum (take c.args.i ws)) c.as_slice.ensures.value in
    omega (arith, start, sum_by-take-le (λ x. x) widths c.args.i, c.self.invariant.total, c.self.invariant.few)

pub returns : goal.returns
returns c =
    c.total.ensures ∙ ap (λ ws. sum (take c.args.i ws)) c.as_slice.ensures.value ∙ ap (λ (v : NumberRows). sum (take c.args.i v.widths)) c.self.view_is
