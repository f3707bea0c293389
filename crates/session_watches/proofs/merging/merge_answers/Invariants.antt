use Rattle.std.proofs.Common.{length}
use Rattle.session_groups.proofs.MergedPartials.{MergedSoFar}
use Rattle.session_watches.proofs.merging.merge_answers.Given as goal

abbrev pub invariant-answers : goal.invariant-answers
invariant-answers l = MergedSoFar l.query l.answers l.left l.whole.groups

abbrev pub decreases-answers : goal.decreases-answers
decreases-answers l = length l.left
