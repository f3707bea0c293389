use Rattle.std.proofs.Common.{arith}
use Rattle.std.proofs.lemmas.Int.{ints, to_z-of_z}
use Rattle.std.proofs.lemmas.List.Sums.{fold_more}
use Rattle.plain_history.proofs.numbers.total.Goals as goal

pub loop-n-preserved : goal.loop-n-preserved
loop-n-preserved c = record {
  so_far = grind (arith, ints, to_z-of_z, fold_more);
  low = omega (arith, ints);
  high = omega (arith, ints);
}
