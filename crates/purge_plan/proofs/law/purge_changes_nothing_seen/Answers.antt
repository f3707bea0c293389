use Rattle.purge_plan.proofs.SameSight.{nothing_seen}
use Rattle.purge_plan.proofs.law.purge_changes_nothing_seen.Goals as goal

pub returns : goal.returns
returns c = nothing_seen
