use Rattle.std.proofs.Common.{ap, ◌∙◌}
use Rattle.cube_values.specs.BitRows.{has_bit}
use Rattle.packed_words.proofs.Shifts.{has_low_part}
use Rattle.packed_words.proofs.word_bits.read_bits.Goals as goal

pub returns-clause-bits : goal.returns-clause-bits
returns-clause-bits c =
    λ k h.
    ap (λ n. has_bit n k) c.low_part.ensures
    ∙ has_low_part c.word_at.result c.args.width k h
    ∙ c.word_at.ensures k h
