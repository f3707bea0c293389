use Rattle.core_changes.proofs.GroupCalls.{by-asking, by-putting}
use Rattle.core_changes.proofs.calls.groups_are_calls_of_changes.Goals as goal

pub returns-clause-asked : goal.returns-clause-asked
returns-clause-asked c = λ cells caller session number shards s call own now.
    by-asking cells caller session number s own now shards call

pub returns-clause-put : goal.returns-clause-put
returns-clause-put c = λ cells caller session number shards cube epoch s shape rows told own now.
    by-putting cells caller session number s own now shards cube epoch shape rows told
