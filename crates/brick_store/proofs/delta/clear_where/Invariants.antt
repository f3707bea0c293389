use Rattle.std.proofs.Common.{◌-◌, ◌≤◌, length}
use Rattle.brick_store.proofs.Apart.{AreClearedTo}
use Rattle.brick_store.proofs.delta.clear_where.Given as goal

abbrev pub invariant-runs : goal.invariant-runs
invariant-runs l = record {
  within : l.at ≤ length l.others.bits;
  cleared : AreClearedTo l.at l.initial.bits.bits l.others.bits l.bits.bits;
}

abbrev pub decreases-runs : goal.decreases-runs
decreases-runs l = length l.others.bits - l.at
