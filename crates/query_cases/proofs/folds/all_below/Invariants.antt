use Rattle.std.proofs.Common.{◌<◌, All, take}
use Rattle.query_cases.proofs.folds.all_below.Given as goal

abbrev pub invariant-dims : goal.invariant-dims
invariant-dims l = All (λ dim. dim < l.dims) (take l.dim-index l.group)
