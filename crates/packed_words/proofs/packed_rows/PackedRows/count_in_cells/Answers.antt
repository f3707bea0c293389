use Rattle.std.proofs.Common.{◌≡◌, ◌+◌, ◌*◌, ◌^◌, ◌<◌, ◌≤◌, length, take, drop, get_or, sum, sym, ap, subst, ◌∙◌, arith, pow_mono}
use Rattle.std.proofs.Math.Nat.{add-mul}
use Rattle.std.proofs.lemmas.List.{get_or_default, length-take}
use Rattle.cube_values.specs.BitRows.{has_bit, is_set}
use Rattle.packed_words.specs.Rows.{NumberRows, lowest_bit_of, number_in_rows}
use Rattle.packed_words.proofs.Numbers.{number_below}
use Rattle.packed_words.proofs.HeldRows.{seen_length, number_there, number_inside, rows_fit, words_of}
use Rattle.packed_words.proofs.packed_rows.PackedRows.count_in_cells.Goals as goal

pub count_at-requires-clause-within : goal.count_at-requires-clause-within
count_at-requires-clause-within c = λ k h.
    let old = c.self.inside in
    let long = seen_length old c.args.self.now c.self.view_is in
    let dims = ap (λ (v : NumberRows). length v.widths) c.self.view_is in
    let there : c.args.i < length old.widths.items = omega (arith, c.requires.number) in
    let start : c.bits_before.result ≡ sum (take c.args.i old.widths.items) = c.bits_before.ensures ∙ ap (λ (v : NumberRows). sum (take c.args.i v.widths)) (sym c.self.view_is) in
    let width : c.index.result.now ≡ get_or old.widths.items c.args.i 0 = c.index.ensures ∙ get_or_default old.widths.items c.args.i c.index.result.now 0 there in
    let inside = number_inside old.widths.items old.width old.rows old.room old.bits c.self.invariant (c.args.from + k) c.args.i (omega (arith, c.requires.rows)) there in
    omega (arith, start, width, inside, c.words.ensures.count, add-mul c.args.from k old.width)

pub count_at-requires-clause-small : goal.count_at-requires-clause-small
count_at-requires-clause-small c = λ k h.
    let old = c.self.inside in
    let long = seen_length old c.args.self.now c.self.view_is in
    let dims = ap (λ (v : NumberRows). length v.widths) c.self.view_is in
    let there : c.args.i < length old.widths.items = omega (arith, c.requires.number) in
    let start : c.bits_before.result ≡ sum (take c.args.i old.widths.items) = c.bits_before.ensures ∙ ap (λ (v : NumberRows). sum (take c.args.i v.widths)) (sym c.self.view_is) in
    let inside = number_inside old.widths.items old.width old.rows old.room old.bits c.self.invariant (c.args.from + k) c.args.i (omega (arith, c.requires.rows)) there in
    omega (arith, start, inside, c.self.invariant.long, rows_fit old.widths.items old.width old.rows old.room old.bits c.self.invariant old.rows (omega arith), add-mul c.args.from k old.width)

pub returns-clause-counted : goal.returns-clause-counted
returns-clause-counted c = λ cells size are.
    let old = c.self.inside in
    let i = c.args.i in
    let widths = old.widths.items in
    let words = c.words.result.now in
    let long = seen_length old c.args.self.now c.self.view_is in
    let dims = ap (λ (v : NumberRows). length v.widths) c.self.view_is in
    let there : i < length widths = omega (arith, c.requires.number) in
    let start : c.bits_before.result ≡ sum (take i widths) = c.bits_before.ensures ∙ ap (λ (v : NumberRows). sum (take i v.widths)) (sym c.self.view_is) in
    let width : c.index.result.now ≡ get_or widths i 0 = c.index.ensures ∙ get_or_default widths i c.index.result.now 0 there in
    c.count_at.ensures.counted cells size (record {
      bits = λ k bit hk hb.
          let row : c.args.from + k < old.rows = omega (arith, c.requires.rows) in
          let place : lowest_bit_of widths (c.args.from + k) i + bit ≡ c.args.from * old.width + c.bits_before.result + k * old.width + bit = ap (λ w. (c.args.from + k) * w + sum (take i widths) + bit) (sym c.self.invariant.total) ∙ omega (arith, start, add-mul c.args.from k old.width) in
          ap (λ n. has_bit n bit) (are k hk)
          ∙ ap (λ (v : NumberRows). has_bit (number_in_rows v.rows (c.args.from + k) i) bit) (sym c.self.view_is)
          ∙ sym (words_of widths old.width old.rows old.room old.bits c.self.invariant words c.words.ensures.bits (c.args.from + k) i bit row there (omega (arith, width)))
          ∙ ap (is_set words) place;
      below = λ k hk.
          let row : c.args.from + k < old.rows = omega (arith, c.requires.rows) in
          let bits = take (get_or widths i 0) (drop ((c.args.from + k) * old.width + sum (take i widths)) old.bits.bits) in
          let is = are k hk ∙ ap (λ (v : NumberRows). number_in_rows v.rows (c.args.from + k) i) (sym c.self.view_is) ∙ sym (number_there widths old.width old.rows old.room old.bits c.self.invariant (c.args.from + k) i row there) in
          let most : length bits ≤ get_or widths i 0 = omega (arith, length-take (get_or widths i 0) (drop ((c.args.from + k) * old.width + sum (take i widths)) old.bits.bits)) in
          subst (λ w. get_or cells k 0 < 2 ^ w) (sym width) (omega (arith, is, number_below bits, pow_mono most));
    })
