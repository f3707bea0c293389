use Rattle.std.proofs.Common.{arith, ap, ◌∙◌, ◌-◌, ◌^◌}
use Rattle.std.proofs.lemmas.Nat.Bits.{ones_shr}
use Rattle.cube_values.proofs.bits.low_ones.Goals as goal

pub returns-else-count-eq0 : goal.returns-else-count-eq0
returns-else-count-eq0 c =
    ones_shr 64 (64 - c.args.count) (omega arith) ∙ ap (λ k. 2 ^ k - 1) (omega arith)
