use Rattle.std.proofs.Common.{◌≡◌, length}
use Rattle.brick_store.proofs.dense.take_many.Given as goal

abbrev pub invariant-loop-i : goal.invariant-loop-i
invariant-loop-i l = length l.tallies.items ≡ l._i
