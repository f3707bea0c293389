use Rattle.std.proofs.Common.{◌≡◌, List, length}
use Rattle.cube_values.specs.declared.row.CodedRow.{CodedRow}
use Rattle.agg_fold.specs.Standing.{StandsFor}
use Rattle.measured_rows.proofs.groups.folded.Given as goal

abbrev pub invariant-items : goal.invariant-items
invariant-items l = (rs : List CodedRow) × StandsFor l.query rs l.partial.groups × (length rs ≡ l.i)
