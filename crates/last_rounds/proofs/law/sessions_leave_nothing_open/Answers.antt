use Rattle.last_rounds.proofs.OpenCounters.{none-open, none-pending}
use Rattle.last_rounds.proofs.law.sessions_leave_nothing_open.Goals as goal

pub returns-clause-snapshots : goal.returns-clause-snapshots
returns-clause-snapshots c = none-open

pub returns-clause-pending : goal.returns-clause-pending
returns-clause-pending c = none-pending
