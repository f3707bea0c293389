use Rattle.std.proofs.Common.{◌+◌, ◌*◌, length, take, drop, get_or, sym, ap, ◌∙◌, arith}
use Rattle.cube_values.proofs.BitWords.{bits_length}
use Rattle.packed_words.specs.Numbers.{number_of_bits}
use Rattle.packed_words.specs.Words.{PackedBits}
use Rattle.packed_words.proofs.BitParts.{number_read}
use Rattle.packed_words.proofs.packed_words.PackedWords.read_each.Goals as goal

pub read_each-requires-clause-within : goal.read_each-requires-clause-within
read_each-requires-clause-within c = λ k h.
    let old = c.self.inside in
    let long = ap (λ (v : PackedBits). length v.bits) (sym c.self.view_is) ∙ bits_length old.words.items old.len in
    omega (arith, c.requires.within k h, long, c.self.invariant.count, ap length c.as_slice.ensures.value)

pub read_each-requires-clause-small : goal.read_each-requires-clause-small
read_each-requires-clause-small c = λ k h.
    omega (arith, c.requires.within k h, c.len-bits.ensures.bits)

pub returns : goal.returns
returns c = λ k h.
    let old = c.self.inside in
    let place = c.args.place + k * c.args.step in
    let n = get_or c.read_each.new.numbers k 0 in
    let long = ap (λ (v : PackedBits). length v.bits) (sym c.self.view_is) ∙ bits_length old.words.items old.len in
    number_read old.words.items old.len place c.args.width n (omega (arith, c.requires.within k (omega arith), long)) (c.read_each.ensures.below k h) (λ bit b. rw c.as_slice.ensures.value at (c.read_each.ensures.bits k bit h b))
    ∙ ap (λ (v : PackedBits). number_of_bits (take c.args.width (drop place v.bits))) c.self.view_is
