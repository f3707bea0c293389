use Rattle.core_records.proofs.SessionParts.{own-entries, own-part}
use Rattle.core_records.proofs.law.entries_are_of_own_calls.Goals as goal

pub returns-clause-session : goal.returns-clause-session
returns-clause-session c = own-part

pub returns-clause-statement : goal.returns-clause-statement
returns-clause-statement c = own-entries
