use Rattle.one_session.proofs.Entries.{entries_behind, last_entries, same_steps}
use Rattle.one_session.proofs.law.what_is_behind_stays.Goals as goal

pub returns-clause-entries : goal.returns-clause-entries
returns-clause-entries c = entries_behind

pub returns-clause-last : goal.returns-clause-last
returns-clause-last c = last_entries

pub returns-clause-steps : goal.returns-clause-steps
returns-clause-steps c = same_steps
