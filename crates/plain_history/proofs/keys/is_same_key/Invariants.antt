use Rattle.std.proofs.Common.{◌≡◌, length}
use Rattle.cube_values.specs.Answer.{key_of}
use Rattle.cube_values.specs.Values.{values_eq}
use Rattle.plain_history.proofs.keys.is_same_key.Given as goal

abbrev pub invariant-places : goal.invariant-places
invariant-places l = values_eq (key_of l.left l.a) (key_of l.left l.b) ≡ values_eq (key_of l.group l.a) (key_of l.group l.b)

abbrev pub decreases-places : goal.decreases-places
decreases-places l = length l.left
