use Rattle.std.proofs.Common.{arith}
use Rattle.std.proofs.lemmas.List.Sums.{count_by-le-length}
use Rattle.measures.proofs.vectors.PlanWork.work.Goals as goal

pub invariant_of-self : goal.invariant_of-self
invariant_of-self c =
    (rw c.ones-self-inside.ensures c.plan.ensures.vector, omega (arith, c.ones-self-inside.ensures, c.len-before.ensures.within, count_by-le-length (λ bit. bit) c.plan.new.keep.bits))
