use Rattle.std.proofs.Common.{◌≡◌, ◌+◌, ◌%◌, ◌^◌, length}
use Rattle.std.specs.List.{sum_by}
use Rattle.measures.specs.Checksums.{counters_sum}
use Rattle.measures.proofs.board.total.Given as goal

abbrev pub invariant-counters : goal.invariant-counters
invariant-counters l = (l.sum + sum_by (λ counter. counter) l.left) % 2 ^ 64 ≡ counters_sum l.counters

abbrev pub decreases-counters : goal.decreases-counters
decreases-counters l = length l.left
