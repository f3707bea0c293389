use Rattle.posted_pasts.proofs.AddedCalls.{at-epoch, by-plain, one-box, only-rows, without-changes}
use Rattle.posted_pasts.proofs.changes.calls_add_operations.Goals as goal

pub returns-clause-none : goal.returns-clause-none
returns-clause-none c = without-changes

pub returns-clause-plain : goal.returns-clause-plain
returns-clause-plain c = by-plain

pub returns-clause-once : goal.returns-clause-once
returns-clause-once c = one-box

pub returns-clause-epoch : goal.returns-clause-epoch
returns-clause-epoch c = at-epoch

pub returns-clause-rows : goal.returns-clause-rows
returns-clause-rows c = only-rows
