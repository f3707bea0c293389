use Rattle.std.proofs.Common.{◌≡◌, take}
use Rattle.agg_fold.specs.Coded.{coded_key}
use Rattle.agg_fold.proofs.partial.gather.Given as goal

abbrev pub invariant-dims : goal.invariant-dims
invariant-dims l = l.key.items ≡ coded_key (take l.dim-index l.group) l.coords
