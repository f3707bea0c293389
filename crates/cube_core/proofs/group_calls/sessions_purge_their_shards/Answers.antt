use Rattle.cube_core.proofs.Requests.{may-purge, purged, may-note-purge}
use Rattle.cube_core.proofs.group_calls.sessions_purge_their_shards.Goals as goal

pub returns-clause-may_purge : goal.returns-clause-may_purge
returns-clause-may_purge c = may-purge

pub returns-clause-purged : goal.returns-clause-purged
returns-clause-purged c = purged

pub returns-clause-may_note : goal.returns-clause-may_note
returns-clause-may_note c = may-note-purge
