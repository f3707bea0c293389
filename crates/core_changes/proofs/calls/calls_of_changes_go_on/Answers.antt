use Rattle.core_changes.proofs.ChangeCalls.{by-more-calls, by-no-call, by-plain-calls, by-search, leaves-watch}
use Rattle.core_changes.proofs.calls.calls_of_changes_go_on.Goals as goal

pub returns-clause-none : goal.returns-clause-none
returns-clause-none c = by-no-call

pub returns-clause-plain : goal.returns-clause-plain
returns-clause-plain c = by-plain-calls

pub returns-clause-search : goal.returns-clause-search
returns-clause-search c = by-search

pub returns-clause-further : goal.returns-clause-further
returns-clause-further c = by-more-calls

pub returns-clause-watch : goal.returns-clause-watch
returns-clause-watch c = leaves-watch
