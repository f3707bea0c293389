use Rattle.aosi_desk.proofs.register.Register.is_in_order.Goals as goal

pub returns : goal.returns
returns c =
    rw (← c.self.view_is)
    (c.legal_journals_are_in_order.ensures c.self.inside.safe c.self.inside.fields.journal.items
    c.self.invariant.0.legal)
