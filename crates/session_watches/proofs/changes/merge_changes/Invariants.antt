use Rattle.std.proofs.Common.{length}
use Rattle.session_watches.proofs.MergedChanges.{MergedSoFar}
use Rattle.session_watches.proofs.changes.merge_changes.Given as goal

abbrev pub invariant-answers : goal.invariant-answers
invariant-answers l = MergedSoFar l.query l.answers l.left l.whole

abbrev pub decreases-answers : goal.decreases-answers
decreases-answers l = length l.left
