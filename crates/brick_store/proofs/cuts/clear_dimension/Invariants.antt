use Rattle.std.proofs.Common.{◌-◌, ◌≤◌, ◌<◌, length, get_or}
use Rattle.brick_store.specs.Cuts.{AreClearedFrom, part_has_row}
use Rattle.brick_store.proofs.cuts.clear_dimension.Given as goal

abbrev pub invariant-chunks : goal.invariant-chunks
invariant-chunks l = record {
  within : l.at ≤ length l.bits.bits;
  cleared : AreClearedFrom (part_has_row l.part (get_or l.starts l.dim 0) l.dim) l.columns.rows 0 l.at l.initial.bits.bits l.bits.bits;
  some : 0 < length l.columns.rows → 0 < length l.offsets;
}

abbrev pub decreases-chunks : goal.decreases-chunks
decreases-chunks l = length l.bits.bits - l.at
