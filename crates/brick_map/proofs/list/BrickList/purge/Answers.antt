use Rattle.std.proofs.Common.{map, ap, refl, ◌∙◌}
use Rattle.brick_store.specs.Bricks.{BrickState}
use Rattle.brick_map.specs.Lists.{brick_purged}
use Rattle.brick_map.specs.Places.{numbers_of_bricks}
use Rattle.brick_map.proofs.Counts.{numbers_map}
use Rattle.brick_map.proofs.Placed.{placed_items}
use Rattle.brick_map.proofs.list.BrickList.purge.Goals as goal

pub invariant_of-self : goal.invariant_of-self
invariant_of-self c =
    let old = c.self.inside in
    let f : BrickState → BrickState = brick_purged c.args.epoch in
    let now = c.purge_each.ensures ∙ ap (map f) c.as_mut_slice.ensures.value in
    placed_items old c.purge_each.new.bricks c.self.invariant (ap numbers_of_bricks now ∙ numbers_map f old.bricks.items (λ b. refl))
