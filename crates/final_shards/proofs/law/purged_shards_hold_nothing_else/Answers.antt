use Rattle.final_shards.proofs.HeldRows.{no-mark, no-other-row}
use Rattle.final_shards.proofs.law.purged_shards_hold_nothing_else.Goals as goal

pub returns-clause-marks : goal.returns-clause-marks
returns-clause-marks c = no-mark

pub returns-clause-rows : goal.returns-clause-rows
returns-clause-rows c = no-other-row
