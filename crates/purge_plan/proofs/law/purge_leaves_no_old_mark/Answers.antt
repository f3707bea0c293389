use Rattle.purge_plan.proofs.OldMarks.{no_old_mark}
use Rattle.purge_plan.proofs.law.purge_leaves_no_old_mark.Goals as goal

pub returns : goal.returns
returns c = no_old_mark
