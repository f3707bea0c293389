use Rattle.core_events.proofs.InOrder.{run-order, lse-below-bounds, round-below-bounds}
use Rattle.core_events.proofs.desk.bounds_stay_safe.Goals as goal

pub returns-clause-order : goal.returns-clause-order
returns-clause-order c = run-order

pub returns-clause-lse : goal.returns-clause-lse
returns-clause-lse c = lse-below-bounds

pub returns-clause-round : goal.returns-clause-round
returns-clause-round c = round-below-bounds
