use Rattle.std.proofs.Common.{◌+◌, ◌++◌, length, sym, ap, ◌∙◌, arith}
use Rattle.std.specs.Vec.{vec_capacity}
use Rattle.cube_values.proofs.BitWords.{bits_length}
use Rattle.packed_words.specs.Numbers.{low_bits}
use Rattle.packed_words.specs.Words.{PackedBits}
use Rattle.packed_words.proofs.BitParts.{bits_appended, count_grows, packed_appended}
use Rattle.packed_words.proofs.packed_words.PackedWords.push.Goals as goal

pub push_bits-requires-clause-memory : goal.push_bits-requires-clause-memory
push_bits-requires-clause-memory c =
    let old = c.self.inside in
    let long = ap (λ (v : PackedBits). length v.bits) (sym c.self.view_is) ∙ bits_length old.words.items old.len in
    let room = ap (λ (v : PackedBits). v.room) c.self.view_is in
    let most = count_grows (old.len + c.args.width) old.room (omega (arith, c.requires.room)) in
    omega (arith, most, c.self.invariant.memory)

pub overflow_add-self : goal.overflow_add-self
overflow_add-self c =
    let old = c.self.inside in
    let long = ap (λ (v : PackedBits). length v.bits) (sym c.self.view_is) ∙ bits_length old.words.items old.len in
    let room = ap (λ (v : PackedBits). v.room) c.self.view_is in
    omega (arith, c.requires.room)

pub invariant_of-self : goal.invariant_of-self
invariant_of-self c =
    let old = c.self.inside in
    let new = c.push_bits.new.words in
    let long = ap (λ (v : PackedBits). length v.bits) (sym c.self.view_is) ∙ bits_length old.words.items old.len in
    let room = ap (λ (v : PackedBits). v.room) c.self.view_is in
    packed_appended old.words.items new.items old.len c.args.value c.args.width old.room (vec_capacity old.words) (vec_capacity new) c.self.invariant (sym new.ok.0 ∙ c.push_bits.ensures.held) c.push_bits.ensures.bits c.requires.fits (omega (arith, c.requires.room)) c.push_bits.ensures.capacity

pub returns : goal.returns
returns c =
    let old = c.self.inside in
    let bits = bits_appended old.words.items c.push_bits.new.words.items old.len c.args.value c.args.width c.push_bits.ensures.bits in
    (λ t. record { bits = bits t; room = old.room }) ∙ ap (λ (v : PackedBits). record v { bits = v.bits ++ low_bits c.args.width c.args.value }) c.self.view_is
