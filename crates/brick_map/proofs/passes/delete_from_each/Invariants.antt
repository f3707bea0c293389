use Rattle.std.proofs.Common.{◌≡◌}
use Rattle.brick_columns.proofs.InPlace.{ChangesEach}
use Rattle.brick_map.specs.Lists.{brick_after_deletion}
use Rattle.brick_map.proofs.passes.delete_from_each.Given as goal

abbrev pub invariant-loop-brick : goal.invariant-loop-brick
invariant-loop-brick l = ChangesEach (λ x y. y ≡ brick_after_deletion l.shape.sizes l.span l.epoch x) l.initial.bricks l.initial.bricks l.bricks l.brick-index
