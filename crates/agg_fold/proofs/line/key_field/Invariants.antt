use Rattle.std.proofs.Common.{◌≡◌, length}
use Rattle.agg_fold.specs.Lines.{key_field}
use Rattle.agg_fold.proofs.line.key_field.Given as goal

abbrev pub invariant-dims : goal.invariant-dims
invariant-dims l = key_field l.group_left l.values_left l.dim ≡ key_field l.group l.values l.dim

abbrev pub decreases-dims : goal.decreases-dims
decreases-dims l = length l.group_left
