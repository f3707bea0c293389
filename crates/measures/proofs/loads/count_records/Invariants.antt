use Rattle.std.proofs.Common.{◌≡◌, ◌+◌, ◌%◌, ◌^◌, length}
use Rattle.measures.specs.Loads.{records_sum}
use Rattle.measures.proofs.loads.count_records.Given as goal

abbrev pub invariant-records : goal.invariant-records
invariant-records l = (l.records + length l.source.left) % 2 ^ 64 ≡ records_sum l.fn.source.left

abbrev pub decreases-records : goal.decreases-records
decreases-records l = length l.source.left
