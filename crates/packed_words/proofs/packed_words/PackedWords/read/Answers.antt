use Rattle.std.proofs.Common.{length, take, drop, sym, ap, ◌∙◌, arith}
use Rattle.cube_values.proofs.BitWords.{bits_length}
use Rattle.packed_words.specs.Numbers.{number_of_bits}
use Rattle.packed_words.specs.Words.{PackedBits}
use Rattle.packed_words.proofs.BitParts.{number_read}
use Rattle.packed_words.proofs.packed_words.PackedWords.read.Goals as goal

pub read_bits-requires-clause-within : goal.read_bits-requires-clause-within
read_bits-requires-clause-within c =
    let old = c.self.inside in
    let long = ap (λ (v : PackedBits). length v.bits) (sym c.self.view_is) ∙ bits_length old.words.items old.len in
    omega (arith, c.requires.within, c.self.invariant.count, ap length c.as_slice.ensures.value)

pub returns : goal.returns
returns c =
    let old = c.self.inside in
    let long = ap (λ (v : PackedBits). length v.bits) (sym c.self.view_is) ∙ bits_length old.words.items old.len in
    number_read old.words.items old.len c.args.place c.args.width c.read_bits.result (omega (arith, c.requires.within)) c.read_bits.ensures.below (rw c.as_slice.ensures.value at c.read_bits.ensures.bits) ∙ ap (λ (v : PackedBits). number_of_bits (take c.args.width (drop c.args.place v.bits))) c.self.view_is
