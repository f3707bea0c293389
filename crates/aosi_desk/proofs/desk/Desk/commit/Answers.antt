use Rattle.std.proofs.Common.{refl}
use Rattle.aosi_desk.proofs.Kept.{keeps-other}
use Rattle.aosi_desk.proofs.desk.Desk.commit.Goals as goal

pub invariant_of-self : goal.invariant_of-self
invariant_of-self c = (
  keeps-other _ _ _ _ c.self.inside.cubes.items _ c.deref_mut.ensures.value
      c.commit.ensures refl c.self.invariant.0,
  c.self.invariant.1,
  c.self.invariant.2,
)
