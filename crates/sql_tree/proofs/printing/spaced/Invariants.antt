use Rattle.std.proofs.Common.{◌≡◌, ◌++◌, length}
use Rattle.cube_language.specs.Printed.{spaced, spaced_behind}
use Rattle.sql_tree.proofs.printing.spaced.Given as goal

abbrev pub invariant-symbols : goal.invariant-symbols
invariant-symbols l = l.out.items ++ spaced_behind l.before l.left ≡ spaced l.symbols

abbrev pub decreases-symbols : goal.decreases-symbols
decreases-symbols l = length l.left
