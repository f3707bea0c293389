use Rattle.std.proofs.Common.{◌≡◌, None, replicate}
use Rattle.shard_cell.proofs.passes.empty_cubes.Given as goal

abbrev pub invariant-cubes : goal.invariant-cubes
invariant-cubes l = l.made.items ≡ replicate l._i None
