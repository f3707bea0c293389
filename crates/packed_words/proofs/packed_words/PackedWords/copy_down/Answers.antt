use Rattle.std.proofs.Common.{◌≡◌, ◌+◌, ◌++◌, length, take, drop, sym, ap, ◌∙◌, arith}
use Rattle.std.proofs.lemmas.List.{take_at}
use Rattle.std.specs.Vec.{vec_capacity}
use Rattle.cube_values.proofs.BitWords.{bits_length}
use Rattle.packed_words.specs.Words.{PackedBits}
use Rattle.packed_words.proofs.BitParts.{bits_copied, packed_copied}
use Rattle.packed_words.proofs.packed_words.PackedWords.copy_down.Goals as goal

pub copy_bits-requires-clause-within : goal.copy_bits-requires-clause-within
copy_bits-requires-clause-within c =
    let old = c.self.inside in
    let long = ap (λ (v : PackedBits). length v.bits) (sym c.self.view_is) ∙ bits_length old.words.items old.len in
    omega (arith, c.requires.within, c.self.invariant.count, ap length c.as_mut_slice.ensures.value)

pub copy_bits-requires-clause-small : goal.copy_bits-requires-clause-small
copy_bits-requires-clause-small c =
    let old = c.self.inside in
    let long = ap (λ (v : PackedBits). length v.bits) (sym c.self.view_is) ∙ bits_length old.words.items old.len in
    omega (arith, c.requires.within)

pub invariant_of-self : goal.invariant_of-self
invariant_of-self c =
    let old = c.self.inside in
    let new = c.copy_bits.new.words in
    let long = ap (λ (v : PackedBits). length v.bits) (sym c.self.view_is) ∙ bits_length old.words.items old.len in
    let same = rw c.as_mut_slice.ensures.value at c.copy_bits.ensures.long in
    let above = rw c.as_mut_slice.ensures.value at c.copy_bits.ensures.above in
    let e : length new ≡ old.words.len = omega (arith, same, old.words.ok.0) in
    rw (take_at new _ old.words.len e) (packed_copied old.words.items new old.len old.room c.args.to c.args.count (vec_capacity old.words) c.self.invariant same (omega (arith, c.requires.within, c.requires.down)) above)

pub returns : goal.returns
returns c =
    let old = c.self.inside in
    let new = c.copy_bits.new.words in
    let long = ap (λ (v : PackedBits). length v.bits) (sym c.self.view_is) ∙ bits_length old.words.items old.len in
    let same = rw c.as_mut_slice.ensures.value at c.copy_bits.ensures.long in
    let inside = rw c.as_mut_slice.ensures.value at c.copy_bits.ensures.inside in
    let below = rw c.as_mut_slice.ensures.value at c.copy_bits.ensures.below in
    let above = rw c.as_mut_slice.ensures.value at c.copy_bits.ensures.above in
    let e : length new ≡ old.words.len = omega (arith, same, old.words.ok.0) in
    let bits = bits_copied old.words.items new old.len c.args.from c.args.to c.args.count c.requires.down (omega (arith, c.requires.within)) inside below above in
    rw (take_at new _ old.words.len e) ((λ t. record { bits = bits t; room = old.room }) ∙ ap (λ (v : PackedBits). record v { bits = take c.args.to v.bits ++ take c.args.count (drop c.args.from v.bits) ++ drop (c.args.to + c.args.count) v.bits }) c.self.view_is)
