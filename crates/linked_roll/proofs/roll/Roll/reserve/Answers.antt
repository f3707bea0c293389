use Rattle.linked_roll.proofs.Lists.{IsList-grown, list_of_walk}
use Rattle.linked_roll.proofs.roll.Roll.reserve.Goals as goal

pub invariant_of-self : goal.invariant_of-self
invariant_of-self g c =
    list_of_walk _ _ (IsList-grown c.self.inside.links c.reserve.new.self _ c.reserve.ensures.rest_kept
    c.reserve.ensures.capacity c.self.invariant)
