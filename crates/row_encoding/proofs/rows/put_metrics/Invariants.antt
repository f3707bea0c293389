use Rattle.std.proofs.Common.{◌≡◌, map, take}
use Rattle.cube_run.specs.LoadedRows.{metric_value}
use Rattle.row_encoding.proofs.rows.put_metrics.Given as goal

abbrev pub invariant-values : goal.invariant-values
invariant-values l = l.metrics.items ≡ map metric_value (take l.value-index l.values)
