use Rattle.one_session.proofs.InOrder.{order_at_first, order_kept, order_more}
use Rattle.one_session.proofs.law.operations_stay_in_order.Goals as goal

pub returns-clause-none : goal.returns-clause-none
returns-clause-none c = order_at_first

pub returns-clause-no_change : goal.returns-clause-no_change
returns-clause-no_change c = order_kept

pub returns-clause-change : goal.returns-clause-change
returns-clause-change c = order_more
