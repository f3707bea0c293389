use Rattle.std.proofs.Common.{refl}
use Rattle.aosi_desk.proofs.Kept.{keeps-other}
use Rattle.aosi_desk.proofs.desk.Desk.open_write.Goals as goal

pub invariant_of-self-2 : goal.invariant_of-self-2
invariant_of-self-2 c = (
  keeps-other _ _ _ _ c.self.inside.cubes.items _ c.deref_mut.ensures.value
      c.in_ok-snapshot.ensures.journal refl c.self.invariant.0,
  c.self.invariant.1,
  c.self.invariant.2,
)
