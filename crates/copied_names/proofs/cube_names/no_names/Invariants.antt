use Rattle.std.proofs.Common.{◌≡◌, length}
use Rattle.copied_names.proofs.cube_names.no_names.Given as goal

abbrev pub invariant-cubes : goal.invariant-cubes
invariant-cubes l = length l.lists ≡ l._place
