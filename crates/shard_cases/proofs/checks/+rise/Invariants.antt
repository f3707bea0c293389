use Rattle.std.proofs.Common.{length}
use Rattle.shard_cases.proofs.checks.+rise.Given as goal

abbrev pub decreases-rise : goal.decreases-rise
decreases-rise l = length l.coords.now
