use Rattle.std.proofs.Common.{length}
use Rattle.column_cases.proofs.packed.+small_sum.Given as goal

abbrev pub decreases-small_sum : goal.decreases-small_sum
decreases-small_sum l = length l.widths.now
