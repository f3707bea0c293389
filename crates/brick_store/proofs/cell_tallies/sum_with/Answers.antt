use Rattle.std.proofs.Common.{arith}
use Rattle.std.proofs.lemmas.Int.{ints, to_z-of_z}
use Rattle.std.proofs.lemmas.List.Sums.{fold_more}
use Rattle.brick_store.proofs.cell_tallies.sum_with.Goals as goal

pub rows-preserved : goal.rows-preserved
rows-preserved c = record {
  value = grind (arith, ints, to_z-of_z, fold_more);
  low = omega (arith, ints);
  high = omega (arith, ints);
}
