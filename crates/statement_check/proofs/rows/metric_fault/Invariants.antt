use Rattle.std.proofs.Common.{◌≡◌, map, length}
use Rattle.cube_language.specs.RowFaults.{column_fault}
use Rattle.cube_language.specs.declared.decl.Column.TheVariants.{Metric}
use Rattle.statement_check.proofs.rows.metric_fault.Given as goal

abbrev pub invariant-metrics : goal.invariant-metrics
invariant-metrics l =
    column_fault (map Metric l.columns_left) l.values_left ≡ column_fault (map Metric l.metrics) l.values

abbrev pub decreases-metrics : goal.decreases-metrics
decreases-metrics l = length l.columns_left
