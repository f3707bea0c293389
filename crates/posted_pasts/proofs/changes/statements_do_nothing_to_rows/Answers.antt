use Rattle.posted_pasts.proofs.DoneSteps.{by-no-change, by-no-statement, by-outcome, by-reply}
use Rattle.posted_pasts.proofs.changes.statements_do_nothing_to_rows.Goals as goal

pub returns-clause-no_statement : goal.returns-clause-no_statement
returns-clause-no_statement c = by-no-statement

pub returns-clause-no_change : goal.returns-clause-no_change
returns-clause-no_change c = by-no-change

pub returns-clause-ended : goal.returns-clause-ended
returns-clause-ended c = by-outcome

pub returns-clause-refused : goal.returns-clause-refused
returns-clause-refused c = by-reply
