use Rattle.one_session.proofs.Steps.{nothing_done, no_change_more, change_more}
use Rattle.one_session.proofs.law.operations_are_done_by_statements.Goals as goal

pub returns-clause-none : goal.returns-clause-none
returns-clause-none c = nothing_done

pub returns-clause-no_change : goal.returns-clause-no_change
returns-clause-no_change c = no_change_more

pub returns-clause-change : goal.returns-clause-change
returns-clause-change c = change_more
