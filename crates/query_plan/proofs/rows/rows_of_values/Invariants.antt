use Rattle.std.proofs.Common.{◌≡◌, ◌++◌, length}
use Rattle.std.proofs.Common.{map}
use Rattle.cube_run.specs.LoadedRows.{row_of_values}
use Rattle.query_plan.proofs.rows.rows_of_values.Given as goal

abbrev pub invariant-tuples : goal.invariant-tuples
invariant-tuples l = l.rows.items ++ map (row_of_values l.decl) l.left ≡ map (row_of_values l.decl) l.tuples

abbrev pub decreases-tuples : goal.decreases-tuples
decreases-tuples l = length l.left
