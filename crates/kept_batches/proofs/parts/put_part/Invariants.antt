use Rattle.std.proofs.Common.{length}
use Rattle.kept_batches.proofs.Putting.{PutsRuns}
use Rattle.kept_batches.proofs.parts.put_part.Given as goal

abbrev pub invariant-entries : goal.invariant-entries
invariant-entries l = PutsRuns l.snapshot l.limit l.part l.fn.batch l.from l.left l.batch

abbrev pub decreases-entries : goal.decreases-entries
decreases-entries l = length l.left
