use Rattle.std.specs.Prelude.{vec_capacity}
use Rattle.joined_copies.proofs.CopiesInTurn.{joining-next, joining-none}
use Rattle.joined_copies.proofs.RisingParts.{all-rise}
use Rattle.joined_copies.proofs.cubes.join_copies.Goals as goal

pub cubes-init : goal.cubes-init
cubes-init c =
    joining-none c.args.copies.items c.args.cubes c.in_ok-lists.lists.items (vec_capacity c.in_ok-lists.lists)
    c.in_ok-lists.ensures.items c.in_ok-lists.ensures.capacity

pub cubes-preserved : goal.cubes-preserved
cubes-preserved c =
    joining-next c.args.copies.items c.args.cubes c.cubes.counter c.cubes.left.items c.cubes.lists.items (vec_capacity c.cubes.lists)
    (vec_capacity c.push_reserved.new.self) c.in_ok-parts.parts c.in_ok-parts.rest.items c.push_reserved.new.self.items
    c.cubes.invariant c.in_ok-parts.ensures.joined c.in_ok-parts.ensures.rest c.push_reserved.ensures.items c.push_reserved.ensures.capacity

pub returns-clause-rising : goal.returns-clause-rising
returns-clause-rising c = all-rise c.args.copies.items c.cubes.lists.items c.cubes.invariant.joined
