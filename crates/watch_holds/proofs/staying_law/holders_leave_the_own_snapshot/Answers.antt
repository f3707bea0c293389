use Rattle.watch_holds.proofs.HolderGroups.{compared}
use Rattle.watch_holds.proofs.HolderStaying.{closed-stays, opened-stays}
use Rattle.watch_holds.proofs.staying_law.holders_leave_the_own_snapshot.Goals as goal

pub returns-clause-opened : goal.returns-clause-opened
returns-clause-opened c = opened-stays

pub returns-clause-closed : goal.returns-clause-closed
returns-clause-closed c = closed-stays

pub returns-clause-compared : goal.returns-clause-compared
returns-clause-compared c = compared
