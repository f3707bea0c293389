use Rattle.flusher_rounds.proofs.Rounds.{begins, may-ask, opened, nothing, no-more}
use Rattle.flusher_rounds.proofs.law.rounds_open.Goals as goal

pub returns-clause-begins : goal.returns-clause-begins
returns-clause-begins c = begins

pub returns-clause-may_ask : goal.returns-clause-may_ask
returns-clause-may_ask c = may-ask

pub returns-clause-opened : goal.returns-clause-opened
returns-clause-opened c = opened

pub returns-clause-nothing : goal.returns-clause-nothing
returns-clause-nothing c = nothing

pub returns-clause-no_more : goal.returns-clause-no_more
returns-clause-no_more c = no-more
