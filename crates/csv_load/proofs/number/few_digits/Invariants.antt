use Rattle.std.proofs.Common.{length}
use Rattle.csv_load.proofs.FewDigits.{HasReadDigits}
use Rattle.csv_load.proofs.number.few_digits.Given as goal

abbrev pub invariant-digits : goal.invariant-digits
invariant-digits l = HasReadDigits l.bytes l.left l.n

abbrev pub decreases-digits : goal.decreases-digits
decreases-digits l = length l.left
