use Rattle.std.proofs.Common.{◌≡◌, ◌+◌, ◌*◌, ◌<◌, length, take, drop, get_or, sum, sym, ap, ◌∙◌, arith}
use Rattle.std.proofs.Math.Nat.{add-mul}
use Rattle.std.proofs.lemmas.List.{get_or_default}
use Rattle.packed_words.specs.Numbers.{number_of_bits}
use Rattle.packed_words.specs.Rows.{NumberRows, number_in_rows}
use Rattle.packed_words.proofs.HeldRows.{seen_length, number_there, number_inside}
use Rattle.packed_words.proofs.packed_rows.PackedRows.read_numbers.Goals as goal

pub read_each-requires-clause-within : goal.read_each-requires-clause-within
read_each-requires-clause-within c = λ k h.
    let old = c.self.inside in
    let long = seen_length old c.args.self.now c.self.view_is in
    let dims = ap (λ (v : NumberRows). length v.widths) c.self.view_is in
    let there : c.args.i < length old.widths.items = omega (arith, c.requires.number) in
    let start : c.bits_before.result ≡ sum (take c.args.i old.widths.items) = c.bits_before.ensures ∙ ap (λ (v : NumberRows). sum (take c.args.i v.widths)) (sym c.self.view_is) in
    let width : c.index.result.now ≡ get_or old.widths.items c.args.i 0 = c.index.ensures ∙ get_or_default old.widths.items c.args.i c.index.result.now 0 there in
    let inside = number_inside old.widths.items old.width old.rows old.room old.bits c.self.invariant (c.args.from + k) c.args.i (omega (arith, c.requires.rows)) there in
    omega (arith, start, width, inside, add-mul c.args.from k old.width)

pub returns : goal.returns
returns c = λ k h.
    let old = c.self.inside in
    let long = seen_length old c.args.self.now c.self.view_is in
    let dims = ap (λ (v : NumberRows). length v.widths) c.self.view_is in
    let there : c.args.i < length old.widths.items = omega (arith, c.requires.number) in
    let start : c.bits_before.result ≡ sum (take c.args.i old.widths.items) = c.bits_before.ensures ∙ ap (λ (v : NumberRows). sum (take c.args.i v.widths)) (sym c.self.view_is) in
    let width : c.index.result.now ≡ get_or old.widths.items c.args.i 0 = c.index.ensures ∙ get_or_default old.widths.items c.args.i c.index.result.now 0 there in
    let place : c.args.from * old.width + c.bits_before.result + k * old.width ≡ (c.args.from + k) * old.width + sum (take c.args.i old.widths.items) = omega (arith, start, add-mul c.args.from k old.width) in
    c.read_each.ensures k h
    ∙ (λ t. number_of_bits (take (width t) (drop (place t) old.bits.bits)))
    ∙ number_there old.widths.items old.width old.rows old.room old.bits c.self.invariant (c.args.from + k) c.args.i (omega (arith, c.requires.rows)) there
    ∙ ap (λ (v : NumberRows). number_in_rows v.rows (c.args.from + k) c.args.i) c.self.view_is
