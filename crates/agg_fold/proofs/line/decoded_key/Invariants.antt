use Rattle.std.proofs.Common.{◌≡◌, ◌++◌, drop}
use Rattle.agg_fold.specs.Lines.{decoded_key}
use Rattle.agg_fold.proofs.line.decoded_key.Given as goal

abbrev pub invariant-dims : goal.invariant-dims
invariant-dims l = l.values.items ++ decoded_key l.lists (drop l.i l.group) (drop l.i l.key) ≡ decoded_key l.lists l.group l.key
