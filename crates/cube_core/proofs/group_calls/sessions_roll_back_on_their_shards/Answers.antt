use Rattle.cube_core.proofs.Groups.{may-roll-back, rolled-back}
use Rattle.cube_core.proofs.group_calls.sessions_roll_back_on_their_shards.Goals as goal

pub returns-clause-may_roll_back : goal.returns-clause-may_roll_back
returns-clause-may_roll_back c = may-roll-back

pub returns-clause-rolled_back : goal.returns-clause-rolled_back
returns-clause-rolled_back c = rolled-back
