use Rattle.std.proofs.Common.{◌≡◌, ◌+◌, ◌%◌, ◌^◌, length}
use Rattle.std.specs.List.{sum_by}
use Rattle.measured_rows.specs.Sums.{field_count, line_sum}
use Rattle.measured_rows.proofs.groups.line_sum.Given as goal

abbrev pub invariant-fields : goal.invariant-fields
invariant-fields l = (l.sum + sum_by field_count l.left) % 2 ^ 64 ≡ line_sum l.line

abbrev pub decreases-fields : goal.decreases-fields
decreases-fields l = length l.left
