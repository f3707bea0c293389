use Rattle.cube_core.proofs.Looking.{may-find, finds, misses, may-create, creates, may-note, notes, may-count, counts, asks-names}
use Rattle.cube_core.proofs.holding.sessions_look_and_note.Goals as goal

pub returns-clause-may_find : goal.returns-clause-may_find
returns-clause-may_find c = may-find

pub returns-clause-found : goal.returns-clause-found
returns-clause-found c = finds

pub returns-clause-unknown : goal.returns-clause-unknown
returns-clause-unknown c = misses

pub returns-clause-may_create : goal.returns-clause-may_create
returns-clause-may_create c = may-create

pub returns-clause-created : goal.returns-clause-created
returns-clause-created c = creates

pub returns-clause-may_note : goal.returns-clause-may_note
returns-clause-may_note c = may-note

pub returns-clause-noted : goal.returns-clause-noted
returns-clause-noted c = notes

pub returns-clause-may_count : goal.returns-clause-may_count
returns-clause-may_count c = may-count

pub returns-clause-counted : goal.returns-clause-counted
returns-clause-counted c = counts

pub returns-clause-named : goal.returns-clause-named
returns-clause-named c = asks-names
