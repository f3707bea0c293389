use Rattle.std.proofs.Common.{◌<◌, length, vec_len}
use Rattle.brick_store.specs.Cuts.{AreCleared}
use Rattle.brick_store.proofs.ClearedBits.{first_parts_have}
use Rattle.brick_store.proofs.cuts.clear_outside.Given as goal

abbrev pub invariant-dims : goal.invariant-dims
invariant-dims l = record {
  cleared : AreCleared (first_parts_have l.span.parts l.starts l.dim) l.columns.rows l.initial.bits.bits l.bits.bits;
  some : 0 < length l.columns.rows → 0 < vec_len l.offsets;
}
