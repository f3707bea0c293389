use Rattle.cube_values.proofs.BitLists.{kept_zeros, none_of_zeros}
use Rattle.cube_values.proofs.BitWords.{bits_all}
use Rattle.std.proofs.Common.{false}
use Rattle.cube_values.proofs.bits.Bits.new.Goals as goal

pub invariant_of-result : goal.invariant_of-result
invariant_of-result c =
    kept_zeros c.in_ok-words.words.items c.args.len c.words_for.result c.words_for.ensures (c.in_ok-words.ensures.items_if_clones_equal (λ y e. e))

pub returns-clause-bits : goal.returns-clause-bits
returns-clause-bits c =
    bits_all c.in_ok-words.words.items c.args.len false (λ i _. none_of_zeros c.in_ok-words.words.items c.words_for.result i (c.in_ok-words.ensures.items_if_clones_equal (λ y e. e)))
