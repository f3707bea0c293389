use Rattle.flusher_rounds.proofs.Rounds.{counted, may-ask-failed, asked-failed}
use Rattle.flusher_rounds.proofs.law.the_flusher_looks.Goals as goal

pub returns-clause-counted : goal.returns-clause-counted
returns-clause-counted c = counted

pub returns-clause-may_ask_failed : goal.returns-clause-may_ask_failed
returns-clause-may_ask_failed c = may-ask-failed

pub returns-clause-asked_failed : goal.returns-clause-asked_failed
returns-clause-asked_failed c = asked-failed
