use Rattle.std.proofs.Common.{map, ap, ◌∙◌}
use Rattle.brick_store.specs.Bricks.{BrickState, Home}
use Rattle.brick_map.specs.Lists.{brick_after_deletion}
use Rattle.brick_map.specs.Places.{numbers_of_bricks}
use Rattle.brick_map.proofs.Counts.{numbers_map}
use Rattle.brick_map.proofs.Newborn.{deleted_home}
use Rattle.brick_map.proofs.Placed.{placed_items}
use Rattle.brick_map.proofs.list.BrickList.delete.Goals as goal

pub invariant_of-self : goal.invariant_of-self
invariant_of-self c =
    let old = c.self.inside in
    let f : BrickState → BrickState = brick_after_deletion c.args.shape.now.sizes c.args.span.now c.args.epoch in
    let now = c.delete_from_each.ensures ∙ ap (map f) c.as_mut_slice.ensures.value in
    placed_items old c.delete_from_each.new.bricks c.self.invariant (ap numbers_of_bricks now ∙ numbers_map f old.bricks.items (λ b. ap (λ (h : Home). h.number) (deleted_home c.args.shape.now.sizes c.args.span.now c.args.epoch b)))
