use Rattle.core_events.proofs.Posted.{taken-in-order, done-in-order}
use Rattle.core_events.proofs.mails.workers_do_what_they_take.Goals as goal

pub returns-clause-order : goal.returns-clause-order
returns-clause-order c = taken-in-order

pub returns-clause-once : goal.returns-clause-once
returns-clause-once c = done-in-order
