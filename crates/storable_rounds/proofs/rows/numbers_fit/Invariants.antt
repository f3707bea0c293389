use Rattle.std.proofs.Common.{length, FitsSigned, w64}
use Rattle.std.specs.List.{AllByRecursion}
use Rattle.storable_rounds.proofs.rows.numbers_fit.Given as goal

abbrev pub invariant-numbers : goal.invariant-numbers
invariant-numbers l = AllByRecursion (FitsSigned w64) l.left → AllByRecursion (FitsSigned w64) l.numbers

abbrev pub decreases-numbers : goal.decreases-numbers
decreases-numbers l = length l.left
