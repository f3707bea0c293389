use Rattle.aosi_desk.proofs.Kept.{legal_desk}
use Rattle.aosi_desk.proofs.desk.Desk.journal.Goals as goal

pub returns-clause-legal : goal.returns-clause-legal
returns-clause-legal c =
    rw (← c.self.view_is)
    (legal_desk c.self.inside.register.value _ _ c.self.inside.cubes.items c.deref.ensures c.journal.ensures.legal
    c.self.invariant.0)
