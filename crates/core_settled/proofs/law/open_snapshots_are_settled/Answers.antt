use Rattle.core_settled.proofs.Settled.{open-rows, seen-settled}
use Rattle.core_settled.proofs.law.open_snapshots_are_settled.Goals as goal

pub returns-clause-epochs : goal.returns-clause-epochs
returns-clause-epochs c = seen-settled

pub returns-clause-rows : goal.returns-clause-rows
returns-clause-rows c = open-rows
