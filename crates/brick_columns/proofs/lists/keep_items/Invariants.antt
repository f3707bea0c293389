use Rattle.brick_columns.proofs.InPlace.{Moves}
use Rattle.brick_columns.proofs.lists.keep_items.Given as goal

abbrev pub invariant-loop-i : goal.invariant-loop-i
invariant-loop-i g l = Moves l.bits.bits l.initial.items l.items l.i l.left
