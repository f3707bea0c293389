use Rattle.purge_plan.proofs.SameEpochs.{later_epochs}
use Rattle.purge_plan.proofs.law.purge_keeps_later_epochs.Goals as goal

pub returns : goal.returns
returns c = later_epochs
