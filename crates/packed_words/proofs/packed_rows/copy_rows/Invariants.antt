use Rattle.std.proofs.Common.{◌≡◌}
use Rattle.packed_words.proofs.RowLists.{Chosen}
use Rattle.packed_words.proofs.packed_rows.copy_rows.Given as goal

abbrev pub invariant-loop-row : goal.invariant-loop-row
invariant-loop-row l = record {
  chosen : Chosen l.width l.bits.bits l.initial.words.bits l.words.bits l.rows l.row l.left;
  room : l.words.room ≡ l.initial.words.room;
}
