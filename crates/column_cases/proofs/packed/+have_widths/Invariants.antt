use Rattle.std.proofs.Common.{length}
use Rattle.column_cases.proofs.packed.+have_widths.Given as goal

abbrev pub decreases-have_widths : goal.decreases-have_widths
decreases-have_widths l = length l.row.now
