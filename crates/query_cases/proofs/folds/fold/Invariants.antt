use Rattle.std.proofs.Common.{◌≤◌, List, length}
use Rattle.cube_values.specs.declared.row.CodedRow.{CodedRow}
use Rattle.agg_fold.specs.Standing.{StandsFor}
use Rattle.query_cases.proofs.folds.fold.Given as goal

abbrev pub invariant-rows : goal.invariant-rows
invariant-rows l = (rs : List CodedRow) × StandsFor l.query rs l.partial.groups × (length rs ≤ l.i)
