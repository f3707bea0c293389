use Rattle.std.proofs.Common.{◌<◌, All, take}
use Rattle.store_cases.proofs.making.all_below.Given as goal

abbrev pub invariant-dims : goal.invariant-dims
invariant-dims l = All (λ dim. dim < l.dims) (take l.dim-index l.group)
