use Rattle.core_events.proofs.MayCalls.{may-write, may-read, may-commit, may-abort, may-close, may-create, may-round, may-end}
use Rattle.core_events.proofs.desk.desk_calls_meet_their_conditions.Goals as goal

pub returns-clause-writes : goal.returns-clause-writes
returns-clause-writes c = may-write

pub returns-clause-reads : goal.returns-clause-reads
returns-clause-reads c = may-read

pub returns-clause-commits : goal.returns-clause-commits
returns-clause-commits c = may-commit

pub returns-clause-aborts : goal.returns-clause-aborts
returns-clause-aborts c = may-abort

pub returns-clause-closes : goal.returns-clause-closes
returns-clause-closes c = may-close

pub returns-clause-creates : goal.returns-clause-creates
returns-clause-creates c = may-create

pub returns-clause-rounds : goal.returns-clause-rounds
returns-clause-rounds c = may-round

pub returns-clause-ends : goal.returns-clause-ends
returns-clause-ends c = may-end
