use Rattle.watch_holds.proofs.HolderCalls.{last-closed, may-close, newer-closed, older-closed}
use Rattle.watch_holds.proofs.law.holders_close_readers.Goals as goal

pub returns-clause-may_close : goal.returns-clause-may_close
returns-clause-may_close c = may-close

pub returns-clause-last : goal.returns-clause-last
returns-clause-last c = last-closed

pub returns-clause-older : goal.returns-clause-older
returns-clause-older c = older-closed

pub returns-clause-newer : goal.returns-clause-newer
returns-clause-newer c = newer-closed
