use Rattle.std.proofs.Common.{subst}
use Rattle.linked_roll.specs.Members.{items}
use Rattle.aosi_desk.specs.Holds.{Rise}
use Rattle.aosi_desk.proofs.register.Register.pending_roll.Goals as goal

pub returns-clause-rise : goal.returns-clause-rise
returns-clause-rise c =
    rw (← c.self.view_is)
    (subst (λ x. Rise 0 (items c.self.inside.fields.pending.members) x) c.self.invariant.0.state.ec
    c.self.invariant.0.rise)
