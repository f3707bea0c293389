use Rattle.final_shards.proofs.PurgedShards.{all-purged, has-purged, purged-clear}
use Rattle.final_shards.proofs.law.purges_leave_no_marks.Goals as goal

pub returns-clause-made : goal.returns-clause-made
returns-clause-made c = all-purged

pub returns-clause-marks : goal.returns-clause-marks
returns-clause-marks c = purged-clear

pub returns-clause-all : goal.returns-clause-all
returns-clause-all c = has-purged
