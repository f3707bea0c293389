use Rattle.std.proofs.Common.{length, IsUtf8}
use Rattle.std.specs.List.{AllByRecursion}
use Rattle.storable_rounds.proofs.names.texts_fit.Given as goal

abbrev pub invariant-texts : goal.invariant-texts
invariant-texts l = AllByRecursion IsUtf8 l.left → AllByRecursion IsUtf8 l.texts

abbrev pub decreases-texts : goal.decreases-texts
decreases-texts l = length l.left
