use Rattle.std.proofs.Common.{◌≡◌}
use Rattle.epochs_vector.specs.Without.{staying_bits}
use Rattle.epochs_vector.proofs.WhatStays.{IsTakenOut}
use Rattle.epochs_vector.proofs.without.take_out.Given as goal

abbrev pub invariant-loop-at : goal.invariant-loop-at
invariant-loop-at l =
    IsTakenOut l.epoch (staying_bits l.epoch l.initial.entries) l.initial.entries l.entries l.keep.bits l.at l.len l.from l.rows × (l.keep.room ≡ l.initial.keep.room)
