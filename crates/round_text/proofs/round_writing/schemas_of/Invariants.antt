use Rattle.std.proofs.Common.{◌≡◌, take}
use Rattle.round_text.proofs.round_writing.schemas_of.Given as goal

abbrev pub invariant-cubes : goal.invariant-cubes
invariant-cubes l = l.schemas.items ≡ take l.cube-index l.made
