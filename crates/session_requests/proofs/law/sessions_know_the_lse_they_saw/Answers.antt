use Rattle.session_requests.proofs.ShownCounters.{told-by-counters, told-by-note}
use Rattle.session_requests.proofs.law.sessions_know_the_lse_they_saw.Goals as goal

pub returns-clause-counted : goal.returns-clause-counted
returns-clause-counted c = told-by-counters

pub returns-clause-noted : goal.returns-clause-noted
returns-clause-noted c = told-by-note
