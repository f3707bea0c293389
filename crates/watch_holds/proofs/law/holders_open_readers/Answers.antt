use Rattle.watch_holds.proofs.HolderCalls.{begins, may-open, opened}
use Rattle.watch_holds.proofs.law.holders_open_readers.Goals as goal

pub returns-clause-begins : goal.returns-clause-begins
returns-clause-begins c = begins

pub returns-clause-may_open : goal.returns-clause-may_open
returns-clause-may_open c = may-open

pub returns-clause-opened : goal.returns-clause-opened
returns-clause-opened c = opened
