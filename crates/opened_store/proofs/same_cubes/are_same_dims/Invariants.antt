use Rattle.std.proofs.Common.{◌≡◌, take}
use Rattle.opened_store.proofs.same_cubes.are_same_dims.Given as goal

abbrev pub invariant-dims : goal.invariant-dims
invariant-dims l = record { so_far : take l.i l.dims ≡ take l.i l.others }
