use Rattle.std.proofs.Common.{◌≡◌, ◌≤◌, ◌++◌, length, map}
use Rattle.std.specs.Prelude.{vec_capacity}
use Rattle.round_copies.proofs.round.cubes_of.Given as goal

abbrev pub invariant-cubes : goal.invariant-cubes
invariant-cubes l =
    (map (λ part. part.names) l.cubes.items ++ l.names.items ≡ l.fn.names.items)
    × (map (λ part. part.bricks) l.cubes.items ++ l.bricks.items ≡ l.fn.bricks.items)
    × (length l.cubes.items ≡ l.counter)
    × (length l.fn.names.items ≤ vec_capacity l.cubes)
