use Rattle.watch_holds.proofs.HolderStaying.{readers-stay}
use Rattle.watch_holds.proofs.staying_law.own_calls_leave_the_holders.Goals as goal

pub returns-clause-calls : goal.returns-clause-calls
returns-clause-calls c = readers-stay

pub returns-clause-groups : goal.returns-clause-groups
returns-clause-groups c = λ a readers k g h. h

pub returns-clause-leading : goal.returns-clause-leading
returns-clause-leading c = λ a number epoch k h. h.0
