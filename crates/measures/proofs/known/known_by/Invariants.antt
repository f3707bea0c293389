use Rattle.std.proofs.Common.{◌≡◌, [], length}
use Rattle.measures.specs.Encoded.{known_by, texts_of_names}
use Rattle.measures.proofs.known.known_by.Given as goal

abbrev pub invariant-names : goal.invariant-names
invariant-names l = known_by l.dict l.known (texts_of_names l.left) ≡ known_by l.dict [] (texts_of_names l.names)

abbrev pub decreases-names : goal.decreases-names
decreases-names l = length l.left
