use Rattle.std.proofs.Common.{◌≡◌, length}
use Rattle.cube_values.specs.Answer.{key_of}
use Rattle.cube_values.specs.Values.{values_cmp}
use Rattle.plain_history.proofs.keys.compare_keys.Given as goal

abbrev pub invariant-places : goal.invariant-places
invariant-places l = values_cmp (key_of l.left l.a) (key_of l.left l.b) ≡ values_cmp (key_of l.group l.a) (key_of l.group l.b)

abbrev pub decreases-places : goal.decreases-places
decreases-places l = length l.left
