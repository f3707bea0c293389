use Rattle.std.proofs.Common.{◌≡◌, ◌-◌, ◌^◌, length}
use Rattle.measures.specs.Encoded.{encoded, empty, texts_of_names}
use Rattle.measures.proofs.names.dictionary.Given as goal

abbrev pub invariant-names : goal.invariant-names
invariant-names l = encoded l.dict (texts_of_names l.left) ≡ encoded (empty (2 ^ 32 - 1)) (texts_of_names l.names)

abbrev pub decreases-names : goal.decreases-names
decreases-names l = length l.left
