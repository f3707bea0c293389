use Rattle.std.proofs.Common.{length}
use Rattle.store_cases.proofs.making.+rise.Given as goal

abbrev pub decreases-rise : goal.decreases-rise
decreases-rise l = length l.coords.now
