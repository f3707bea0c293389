use Rattle.std.proofs.Common.{◌≡◌}
use Rattle.brick_columns.proofs.InPlace.{ChangesEach}
use Rattle.brick_map.specs.Lists.{brick_purged}
use Rattle.brick_map.proofs.passes.purge_each.Given as goal

abbrev pub invariant-loop-brick : goal.invariant-loop-brick
invariant-loop-brick l = ChangesEach (λ x y. y ≡ brick_purged l.epoch x) l.initial.bricks l.initial.bricks l.bricks l.brick-index
