use Rattle.std.proofs.Common.{◌≡◌, take}
use Rattle.agg_fold.proofs.group_keys.GroupKeys.copy.Given as goal

abbrev pub invariant-keys : goal.invariant-keys
invariant-keys l = l.keys ≡ take l.place l.self
