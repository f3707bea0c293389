use Rattle.std.proofs.Common.{arith, inl, inr, pow_mono}
use Rattle.std.proofs.lemmas.Bool.{cases_lt}
use Rattle.std.proofs.lemmas.Nat.{one_shl}
use Rattle.brick_columns.proofs.columns.width_of.Goals as goal

pub bits-preserved : goal.bits-preserved
bits-preserved c =
    let l = c.bits in
    λ n h. elim (cases_lt l.width n) [
      | inl a ↦ omega (arith, a)
      | inr a ↦ absurd (omega (arith, h, pow_mono a, one_shl l.width 64 (omega arith), c.from.ensures))
    ]
