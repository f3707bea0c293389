use Rattle.std.proofs.Common.{◌<◌, ◌^◌, length}
use Rattle.std.specs.List.{AllByRecursion}
use Rattle.storable_rounds.proofs.rows.coords_fit.Given as goal

abbrev pub invariant-coords : goal.invariant-coords
invariant-coords l =
    AllByRecursion (λ coord. coord < 2 ^ 32) l.left → AllByRecursion (λ coord. coord < 2 ^ 32) l.coords

abbrev pub decreases-coords : goal.decreases-coords
decreases-coords l = length l.left
