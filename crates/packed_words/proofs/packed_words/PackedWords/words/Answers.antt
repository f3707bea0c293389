use Rattle.std.proofs.Common.{length, sym, ap, ◌∙◌, arith}
use Rattle.cube_values.specs.BitRows.{is_set, bits_of, word_count}
use Rattle.cube_values.proofs.BitWords.{bits_length}
use Rattle.packed_words.specs.Words.{PackedBits}
use Rattle.packed_words.proofs.packed_words.PackedWords.words.Goals as goal

pub returns-clause-count : goal.returns-clause-count
returns-clause-count c =
    let old = c.self.inside in
    let long = ap (λ (v : PackedBits). length v.bits) (sym c.self.view_is) ∙ bits_length old.words.items old.len in
    ap length c.as_slice.ensures.value ∙ c.self.invariant.count ∙ ap word_count (sym long)

pub returns-clause-bits : goal.returns-clause-bits
returns-clause-bits c =
    let old = c.self.inside in
    let long = ap (λ (v : PackedBits). length v.bits) (sym c.self.view_is) ∙ bits_length old.words.items old.len in
    (λ t. bits_of (c.as_slice.ensures.value t) (long t)) ∙ ap (λ (v : PackedBits). v.bits) c.self.view_is

pub returns-clause-unused : goal.returns-clause-unused
returns-clause-unused c =
    let old = c.self.inside in
    let long = ap (λ (v : PackedBits). length v.bits) (sym c.self.view_is) ∙ bits_length old.words.items old.len in
    λ i h. ap (λ words. is_set words i) c.as_slice.ensures.value ∙ c.self.invariant.unused i (omega (arith, long))
