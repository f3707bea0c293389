use Rattle.std.proofs.Common.{◌≡◌, ◌+◌, ◌%◌, ◌^◌, length}
use Rattle.std.specs.List.{sum_by}
use Rattle.measured_rows.specs.Sums.{line_sum, table_sum}
use Rattle.measured_rows.proofs.groups.table_sum.Given as goal

abbrev pub invariant-lines : goal.invariant-lines
invariant-lines l = (l.sum + sum_by line_sum l.left) % 2 ^ 64 ≡ table_sum l.table

abbrev pub decreases-lines : goal.decreases-lines
decreases-lines l = length l.left
