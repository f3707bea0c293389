use Rattle.core_settled.proofs.Settled.{commits-stay, kept-settled, operations-stay, settled-stays}
use Rattle.core_settled.proofs.law.settled_epochs_stay.Goals as goal

pub returns-clause-settled : goal.returns-clause-settled
returns-clause-settled c = settled-stays

pub returns-clause-commits : goal.returns-clause-commits
returns-clause-commits c = commits-stay

pub returns-clause-operations : goal.returns-clause-operations
returns-clause-operations c = operations-stay

pub returns-clause-kept : goal.returns-clause-kept
returns-clause-kept c = kept-settled
