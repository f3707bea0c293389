use Rattle.brick_columns.specs.Lists.{IsSelection}
use Rattle.brick_columns.proofs.InPlace.{ChangesEach}
use Rattle.brick_columns.proofs.lists.keep_each.Given as goal

abbrev pub invariant-loop-list : goal.invariant-loop-list
invariant-loop-list g l = ChangesEach (IsSelection l.bits.bits) l.initial.lists l.initial.lists l.lists l.list-index
