use Rattle.std.proofs.Common.{◌≡◌, [], replicate}
use Rattle.core_names.proofs.cube_texts.CubeTexts.new.Given as goal

abbrev pub invariant-dims : goal.invariant-dims
invariant-dims l = l.known.items ≡ replicate l._dim []
