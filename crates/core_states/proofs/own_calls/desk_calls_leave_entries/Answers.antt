use Rattle.core_states.proofs.CallEntries.{desk-left, none-left}
use Rattle.core_states.proofs.own_calls.desk_calls_leave_entries.Goals as goal

pub returns-clause-none : goal.returns-clause-none
returns-clause-none g c = λ cells caller client.
    none-left g.S.LinkedShard.fits g.S.LinkedShard.stands g.S.LinkedShard.says cells caller client

pub returns-clause-desk : goal.returns-clause-desk
returns-clause-desk g c = λ cells caller client.
    desk-left g.S.LinkedShard.fits g.S.LinkedShard.stands g.S.LinkedShard.says cells caller client
