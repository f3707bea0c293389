use Rattle.std.proofs.Common.{◌+◌, get_or}
use Rattle.brick_store.specs.Cuts.{AreClearedFrom, part_has_row}
use Rattle.brick_store.proofs.cuts.clear_chunk.Given as goal

abbrev pub invariant-rows : goal.invariant-rows
invariant-rows l = AreClearedFrom (part_has_row l.part (get_or l.starts l.dim 0) l.dim) l.columns.rows l.from (l.from + l.k) l.initial.bits.bits l.bits.bits
