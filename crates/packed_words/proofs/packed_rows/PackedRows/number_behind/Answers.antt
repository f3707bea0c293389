use Rattle.std.proofs.Common.{◌≡◌, ◌+◌, ◌*◌, ◌<◌, length, take, drop, get_or, sum, sym, ap, ◌∙◌, arith}
use Rattle.std.proofs.lemmas.List.{get_or_default}
use Rattle.packed_words.specs.Numbers.{number_of_bits}
use Rattle.packed_words.specs.Rows.{NumberRows, number_in_rows}
use Rattle.packed_words.proofs.HeldRows.{seen_length, number_there, number_inside, number_narrow, number_small, rows_fit}
use Rattle.packed_words.proofs.packed_rows.PackedRows.number_behind.Goals as goal

pub overflow_mul-row : goal.overflow_mul-row
overflow_mul-row c =
    let old = c.self.inside in
    let long = seen_length old c.args.self.now c.self.view_is in
    let most = rows_fit old.widths.items old.width old.rows old.room old.bits c.self.invariant c.args.row (omega (arith, c.requires.row)) in
    omega (arith, most)

pub overflow_add-row : goal.overflow_add-row
overflow_add-row c =
    let old = c.self.inside in
    let long = seen_length old c.args.self.now c.self.view_is in
    let dims = ap (λ (v : NumberRows). length v.widths) c.self.view_is in
    let start : c.args.start ≡ sum (take c.args.i old.widths.items) = c.requires.start ∙ ap (λ (v : NumberRows). sum (take c.args.i v.widths)) (sym c.self.view_is) in
    let inside = number_inside old.widths.items old.width old.rows old.room old.bits c.self.invariant c.args.row c.args.i (omega (arith, c.requires.row)) (omega (arith, c.requires.number)) in
    let most = rows_fit old.widths.items old.width old.rows old.room old.bits c.self.invariant old.rows (omega arith) in
    omega (arith, start, inside, most, c.self.invariant.long)

pub read-requires-clause-within : goal.read-requires-clause-within
read-requires-clause-within c =
    let old = c.self.inside in
    let long = seen_length old c.args.self.now c.self.view_is in
    let dims = ap (λ (v : NumberRows). length v.widths) c.self.view_is in
    let there : c.args.i < length old.widths.items = omega (arith, c.requires.number) in
    let start : c.args.start ≡ sum (take c.args.i old.widths.items) = c.requires.start ∙ ap (λ (v : NumberRows). sum (take c.args.i v.widths)) (sym c.self.view_is) in
    let width : c.index.result.now ≡ get_or old.widths.items c.args.i 0 = c.index.ensures ∙ get_or_default old.widths.items c.args.i c.index.result.now 0 there in
    let inside = number_inside old.widths.items old.width old.rows old.room old.bits c.self.invariant c.args.row c.args.i (omega (arith, c.requires.row)) there in
    omega (arith, start, width, inside)

pub read-requires-clause-width : goal.read-requires-clause-width
read-requires-clause-width c =
    let old = c.self.inside in
    let dims = ap (λ (v : NumberRows). length v.widths) c.self.view_is in
    let there : c.args.i < length old.widths.items = omega (arith, c.requires.number) in
    let width : c.index.result.now ≡ get_or old.widths.items c.args.i 0 = c.index.ensures ∙ get_or_default old.widths.items c.args.i c.index.result.now 0 there in
    omega (arith, width, number_narrow old.widths.items old.width old.rows old.room old.bits c.self.invariant c.args.i there)

pub overflow_cast-result : goal.overflow_cast-result
overflow_cast-result c =
    let old = c.self.inside in
    let dims = ap (λ (v : NumberRows). length v.widths) c.self.view_is in
    let there : c.args.i < length old.widths.items = omega (arith, c.requires.number) in
    let width : c.index.result.now ≡ get_or old.widths.items c.args.i 0 = c.index.ensures ∙ get_or_default old.widths.items c.args.i c.index.result.now 0 there in
    let narrow = number_narrow old.widths.items old.width old.rows old.room old.bits c.self.invariant c.args.i there in
    let small = number_small c.index.result.now (c.args.row * old.width + c.args.start) old.bits.bits (omega (arith, width, narrow)) in
    omega (arith, c.read.ensures, small)

pub returns : goal.returns
returns c =
    let old = c.self.inside in
    let long = seen_length old c.args.self.now c.self.view_is in
    let dims = ap (λ (v : NumberRows). length v.widths) c.self.view_is in
    let there : c.args.i < length old.widths.items = omega (arith, c.requires.number) in
    let start : c.args.start ≡ sum (take c.args.i old.widths.items) = c.requires.start ∙ ap (λ (v : NumberRows). sum (take c.args.i v.widths)) (sym c.self.view_is) in
    let width : c.index.result.now ≡ get_or old.widths.items c.args.i 0 = c.index.ensures ∙ get_or_default old.widths.items c.args.i c.index.result.now 0 there in
    c.read.ensures
    ∙ (λ t. number_of_bits (take (width t) (drop (c.args.row * old.width + start t) old.bits.bits)))
    ∙ number_there old.widths.items old.width old.rows old.room old.bits c.self.invariant c.args.row c.args.i (omega (arith, c.requires.row)) there
    ∙ ap (λ (v : NumberRows). number_in_rows v.rows c.args.row c.args.i) c.self.view_is
