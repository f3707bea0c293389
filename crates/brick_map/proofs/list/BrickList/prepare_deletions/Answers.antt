use Rattle.std.proofs.Common.{List, subst}
use Rattle.std.specs.List.{AllZip}
use Rattle.brick_store.specs.Bricks.{BrickState}
use Rattle.brick_map.specs.Lists.{HasSame}
use Rattle.brick_map.proofs.Counts.{same_numbers}
use Rattle.brick_map.proofs.Placed.{placed_items}
use Rattle.brick_map.proofs.list.BrickList.prepare_deletions.Goals as goal

pub invariant_of-self : goal.invariant_of-self
invariant_of-self c =
    let old = c.self.inside in
    let new = c.prepare_deletions.new.bricks in
    let same = subst (λ (l : List BrickState). AllZip HasSame l new) c.as_mut_slice.ensures.value c.prepare_deletions.ensures.same in
    placed_items old new c.self.invariant (same_numbers old.bricks.items new same)
