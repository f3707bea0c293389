use Rattle.std.proofs.Common.{length, IsUtf8}
use Rattle.std.specs.List.{AllByRecursion}
use Rattle.storable_rounds.proofs.names.lists_fit.Given as goal

abbrev pub invariant-lists : goal.invariant-lists
invariant-lists l = AllByRecursion (AllByRecursion IsUtf8) l.left → AllByRecursion (AllByRecursion IsUtf8) l.lists

abbrev pub decreases-lists : goal.decreases-lists
decreases-lists l = length l.left
