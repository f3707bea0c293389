use Rattle.std.proofs.Common.{◌*◌, sym, ap, ◌∙◌, arith, mul-le-mul_right}
use Rattle.std.specs.List.{items_where_true}
use Rattle.packed_words.specs.Words.{PackedBits}
use Rattle.packed_words.specs.Rows.{NumberRows, rows_of_bits}
use Rattle.packed_words.proofs.HeldRows.{seen_length, rows_cut, rows_fit}
use Rattle.packed_words.proofs.packed_rows.PackedRows.keep.Goals as goal

pub copy_rows-left-requires-clause-bits : goal.copy_rows-left-requires-clause-bits
copy_rows-left-requires-clause-bits c = c.requires ∙ seen_length c.self.inside c.args.self.now c.self.view_is

pub copy_rows-left-requires-clause-small : goal.copy_rows-left-requires-clause-small
copy_rows-left-requires-clause-small c =
    let old = c.self.inside in
    rows_fit old.widths.items old.width old.rows old.room old.bits c.self.invariant old.rows (omega arith)

pub overflow_mul-left : goal.overflow_mul-left
overflow_mul-left c =
    let old = c.self.inside in
    let most = rows_fit old.widths.items old.width old.rows old.room old.bits c.self.invariant c.copy_rows-left.result c.copy_rows-left.ensures.within in
    omega (arith, most)

pub returns : goal.returns
returns c =
    let old = c.self.inside in
    let widths = old.widths.items in
    let left = c.copy_rows-left.result in
    let words = c.copy_rows-left.new.words in
    let bits = c.args.bits.now.bits in
    let size = ap (λ w. left * w) (sym c.self.invariant.total) in
    let within = mul-le-mul_right old.width c.copy_rows-left.ensures.within in
    let front = rows_cut widths left (left * old.width) words.bits (items_where_true bits (rows_of_bits widths old.rows old.bits.bits)) size (omega (arith, within, c.copy_rows-left.ensures.long, c.self.invariant.long)) (c.copy_rows-left.ensures.rows widths (sym c.self.invariant.total)) in
    let rows = ap (λ (w : PackedBits). rows_of_bits widths left w.bits) c.truncate.ensures ∙ front in
    (λ t. record { widths = widths; rows = rows t; room = old.room }) ∙ ap (λ (v : NumberRows). record v { rows = items_where_true bits v.rows }) c.self.view_is
