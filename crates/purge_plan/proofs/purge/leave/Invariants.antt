use Rattle.std.proofs.Common.{◌≡◌}
use Rattle.purge_plan.specs.Purged.{spared_bits}
use Rattle.purge_plan.proofs.Passing.{IsPurgedSoFar}
use Rattle.purge_plan.proofs.purge.leave.Given as goal

abbrev pub invariant-loop-at : goal.invariant-loop-at
invariant-loop-at l =
    IsPurgedSoFar l.epoch l.limit (spared_bits l.epoch l.initial.entries) l.initial.entries l.entries l.keep.bits l.at l.len l.from l.rows × (l.keep.room ≡ l.initial.keep.room)
