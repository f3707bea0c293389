use Rattle.std.proofs.Common.{◌≡◌}
use Rattle.brick_columns.proofs.InPlace.{ChangesEach}
use Rattle.brick_map.specs.Lists.{brick_without}
use Rattle.brick_map.proofs.passes.rollback_each.Given as goal

abbrev pub invariant-loop-brick : goal.invariant-loop-brick
invariant-loop-brick l = ChangesEach (λ x y. y ≡ brick_without l.epoch x) l.initial.bricks l.initial.bricks l.bricks l.brick-index
