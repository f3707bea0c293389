use Rattle.std.proofs.Common.{◌≡◌}
use Rattle.round_reading.proofs.NameReads.{limits_so_far}
use Rattle.round_reading.proofs.cubes.limits_of.Given as goal

abbrev pub invariant-dims : goal.invariant-dims
invariant-dims l = l.limits.items ≡ limits_so_far l.i l.cube.dims l.earlier l.names
