use Rattle.final_shards.proofs.LeftEntries.{no-mark-left, held-is-seen}
use Rattle.final_shards.proofs.law.purged_bricks_hold_what_is_seen.Goals as goal

pub returns-clause-marks : goal.returns-clause-marks
returns-clause-marks c = no-mark-left

pub returns-clause-rows : goal.returns-clause-rows
returns-clause-rows c = held-is-seen
