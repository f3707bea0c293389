use Rattle.std.proofs.Common.{length, take, sym, ap, ◌∙◌, arith}
use Rattle.std.specs.Vec.{vec_capacity}
use Rattle.cube_values.proofs.BitWords.{bits_length}
use Rattle.packed_words.specs.Words.{PackedBits}
use Rattle.packed_words.proofs.BitParts.{bits_cut, packed_cut}
use Rattle.packed_words.proofs.packed_words.PackedWords.truncate.Goals as goal

pub cut_bits-requires : goal.cut_bits-requires
cut_bits-requires c =
    let old = c.self.inside in
    let long = ap (λ (v : PackedBits). length v.bits) (sym c.self.view_is) ∙ bits_length old.words.items old.len in
    omega (arith, c.requires, c.self.invariant.count, old.words.ok.0)

pub invariant_of-self : goal.invariant_of-self
invariant_of-self c =
    let old = c.self.inside in
    let new = c.cut_bits.new.words in
    let long = ap (λ (v : PackedBits). length v.bits) (sym c.self.view_is) ∙ bits_length old.words.items old.len in
    packed_cut old.words.items new.items old.len c.args.len old.room (vec_capacity old.words) (vec_capacity new) c.self.invariant (sym new.ok.0 ∙ c.cut_bits.ensures.held) (omega (arith, c.requires)) c.cut_bits.ensures.bits c.cut_bits.ensures.capacity

pub returns : goal.returns
returns c =
    let old = c.self.inside in
    let long = ap (λ (v : PackedBits). length v.bits) (sym c.self.view_is) ∙ bits_length old.words.items old.len in
    let bits = bits_cut old.words.items c.cut_bits.new.words.items old.len c.args.len (omega (arith, c.requires)) c.cut_bits.ensures.bits in
    (λ t. record { bits = bits t; room = old.room }) ∙ ap (λ (v : PackedBits). record v { bits = take c.args.len v.bits }) c.self.view_is
