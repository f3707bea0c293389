use Rattle.std.proofs.Common.{◌≡◌, [], map, take}
use Rattle.store_reading.proofs.names.no_names.Given as goal

abbrev pub invariant-dims : goal.invariant-dims
invariant-dims l = l.lists ≡ map (λ dim. []) (take l.index l.cube.dims)
