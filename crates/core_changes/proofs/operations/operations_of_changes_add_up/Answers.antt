use Rattle.core_changes.proofs.OperationsAdded.{epoch-then-epoch, none-at-epoch, none-then-none, none-then-some, plain-none, some-at-epoch, some-then-none, some-then-some}
use Rattle.core_changes.proofs.operations.operations_of_changes_add_up.Goals as goal

pub returns-clause-plain : goal.returns-clause-plain
returns-clause-plain c = plain-none

pub returns-clause-none : goal.returns-clause-none
returns-clause-none c = none-then-none

pub returns-clause-none_then : goal.returns-clause-none_then
returns-clause-none_then c = none-then-some

pub returns-clause-then_none : goal.returns-clause-then_none
returns-clause-then_none c = some-then-none

pub returns-clause-more : goal.returns-clause-more
returns-clause-more c = some-then-some

pub returns-clause-at_epoch : goal.returns-clause-at_epoch
returns-clause-at_epoch c = some-at-epoch

pub returns-clause-none_at_epoch : goal.returns-clause-none_at_epoch
returns-clause-none_at_epoch c = none-at-epoch

pub returns-clause-epoch : goal.returns-clause-epoch
returns-clause-epoch c = epoch-then-epoch
