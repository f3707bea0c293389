use Rattle.std.proofs.Common.{◌++◌, [], ◌∷◌, arith, ap, ◌∙◌}
use Rattle.linked_roll.specs.Members.{RollState, member}
use Rattle.linked_roll.proofs.Lists.{last_is_node, IsList-added, members_of_list, list_of_walk}
use Rattle.linked_roll.proofs.roll.Roll.push_back.Goals as goal

pub set_next-requires : goal.set_next-requires
set_next-requires g c =
    let put = c.put-ticket.ensures in
    last_is_node c.self.inside.links c.put-ticket.new.self c.put-ticket.new.self c.put-ticket.result c.args.item _
    c.self.invariant put.fresh put.nodes put.first put.last

pub invariant_of-self : goal.invariant_of-self
invariant_of-self g c =
    let put = c.put-ticket.ensures in
    let room = rw (← c.self.view_is) at c.requires in
    list_of_walk _ _ (
    IsList-added c.self.inside.links c.put-ticket.new.self c.set_next.new.self c.put-ticket.result c.args.item _
    c.self.invariant
    put.fresh put.nodes put.first put.last c.set_next.ensures.link (omega arith) (omega arith)
    )

pub returns-clause-members : goal.returns-clause-members
returns-clause-members g c =
    let put = c.put-ticket.ensures in
    let room = rw (← c.self.view_is) at c.requires in
    members_of_list _ _ (
    IsList-added c.self.inside.links c.put-ticket.new.self c.set_next.new.self c.put-ticket.result c.args.item _
    c.self.invariant
    put.fresh put.nodes put.first put.last c.set_next.ensures.link (omega arith) (omega arith)
    )
    ∙ ap (λ ms. ms ++ member c.put-ticket.result c.args.item ∷ []) (ap (λ (s : RollState _). s.members) c.self.view_is)
