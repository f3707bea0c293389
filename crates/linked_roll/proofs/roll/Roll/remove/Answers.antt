use Rattle.std.proofs.Common.{arith, ap, ◌∙◌}
use Rattle.linked_roll.specs.Members.{RollState, members_without}
use Rattle.linked_roll.proofs.Lists.{node_before, node_behind_bound, IsList-taken, members_of_list, list_of_walk}
use Rattle.linked_roll.proofs.roll.Roll.remove.Goals as goal

pub set_next-requires : goal.set_next-requires
set_next-requires g c =
    let taken = c.take-item.ensures in
    node_before c.self.inside.links c.take-item.new.self c.take-item.new.self c.take-item.new.self c.args.ticket
    c.take-item.result
    _ c.self.invariant taken.node taken.nodes taken.first taken.last

pub set_previous-requires : goal.set_previous-requires
set_previous-requires g c =
    let taken = c.take-item.ensures in
    node_behind_bound c.self.inside.links c.take-item.new.self c.set_next.new.self c.set_next.new.self c.args.ticket
    c.take-item.result
    _ c.self.invariant taken.node taken.nodes taken.first taken.last c.set_next.ensures.link

pub invariant_of-self : goal.invariant_of-self
invariant_of-self g c =
    let taken = c.take-item.ensures in
    list_of_walk _ _ (
    IsList-taken c.self.inside.links c.take-item.new.self c.set_next.new.self c.set_previous.new.self
    c.args.ticket c.take-item.result
    _ c.self.invariant taken.node taken.nodes taken.first taken.last c.set_next.ensures.link
    c.set_previous.ensures.link
    (omega arith) (omega (arith, c.self.invariant.fits))
    )

pub returns-clause-members : goal.returns-clause-members
returns-clause-members g c =
    let taken = c.take-item.ensures in
    members_of_list _ _ (
    IsList-taken c.self.inside.links c.take-item.new.self c.set_next.new.self c.set_previous.new.self
    c.args.ticket c.take-item.result
    _ c.self.invariant taken.node taken.nodes taken.first taken.last c.set_next.ensures.link
    c.set_previous.ensures.link
    (omega arith) (omega (arith, c.self.invariant.fits))
    )
    ∙ ap (λ (s : RollState _). members_without c.args.ticket s.members) c.self.view_is
