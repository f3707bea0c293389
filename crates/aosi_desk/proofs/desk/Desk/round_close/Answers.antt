use Rattle.aosi_desk.proofs.Kept.{keeps-other, end_entry-other}
use Rattle.aosi_desk.proofs.desk.Desk.round_close.Goals as goal

pub invariant_of-self : goal.invariant_of-self
invariant_of-self c = (
  keeps-other _ _ _ _ c.self.inside.cubes.items _ c.deref_mut.ensures.value
      c.round_close.ensures (end_entry-other c.args.epoch c.args.end) c.self.invariant.0,
  c.self.invariant.1,
  c.self.invariant.2,
)
