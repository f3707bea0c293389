use Rattle.std.proofs.Common.{◌≡◌, ◌+◌, ◌*◌, ◌^◌, pos, ◌+ℤ◌, ◌<ℤ◌, neg_ℤ, take, fold}
use Rattle.brick_store.proofs.cell_tallies.sum_with.Given as goal

abbrev pub invariant-rows : goal.invariant-rows
invariant-rows l = record {
  value : l.total ≡ fold ◌+ℤ◌ l.sum (take l.i l.numbers);
  low : neg_ℤ (pos (2 ^ 126 + 2 ^ 63 * l.i)) <ℤ l.total;
  high : l.total <ℤ pos (2 ^ 126 + 2 ^ 63 * l.i);
}
