use Rattle.std.proofs.Common.{◌≡◌, [], replicate}
use Rattle.round_reading.proofs.cubes.no_names.Given as goal

abbrev pub invariant-dims : goal.invariant-dims
invariant-dims l = l.lists ≡ replicate l.counter []
