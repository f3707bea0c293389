use Rattle.std.proofs.Common.{ap, nat_eq}
use Rattle.std.proofs.lemmas.Nat.Bits.{shr_and_one}
use Rattle.cube_values.specs.BitRows.{has_bit, is_set}
use Rattle.cube_values.proofs.bits.bit_of_words.Goals as goal

pub returns : goal.returns
unfolding is_set has_bit
returns c = ap (λ b. nat_eq b 1) (shr_and_one _ _)
