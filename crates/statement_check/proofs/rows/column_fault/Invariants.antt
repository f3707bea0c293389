use Rattle.std.proofs.Common.{◌≡◌, ◌++◌, map, length}
use Rattle.cube_language.specs.Columns.{columns_of}
use Rattle.cube_language.specs.RowFaults.{column_fault}
use Rattle.cube_language.specs.declared.decl.Column.TheVariants.{Dim, Metric}
use Rattle.statement_check.proofs.rows.column_fault.Given as goal

abbrev pub invariant-dims : goal.invariant-dims
invariant-dims l =
    column_fault (map Dim l.columns_left ++ map Metric l.decl.metrics) l.values_left ≡ column_fault
    (columns_of l.decl) l.values

abbrev pub decreases-dims : goal.decreases-dims
decreases-dims l = length l.columns_left
