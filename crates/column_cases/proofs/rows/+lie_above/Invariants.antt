use Rattle.std.proofs.Common.{length}
use Rattle.column_cases.proofs.rows.+lie_above.Given as goal

abbrev pub decreases-lie_above : goal.decreases-lie_above
decreases-lie_above l = length l.coords.now
