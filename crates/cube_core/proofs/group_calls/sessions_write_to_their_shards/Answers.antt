use Rattle.cube_core.proofs.Groups.{may-put, may-delete, written, spoiled}
use Rattle.cube_core.proofs.group_calls.sessions_write_to_their_shards.Goals as goal

pub returns-clause-may_put : goal.returns-clause-may_put
returns-clause-may_put c = may-put

pub returns-clause-may_delete : goal.returns-clause-may_delete
returns-clause-may_delete c = may-delete

pub returns-clause-written : goal.returns-clause-written
returns-clause-written c = written

pub returns-clause-spoiled : goal.returns-clause-spoiled
returns-clause-spoiled c = spoiled
