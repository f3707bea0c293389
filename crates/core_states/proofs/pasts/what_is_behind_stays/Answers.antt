use Rattle.core_states.proofs.LongerPasts.{entries-stay, last-entries, same-step}
use Rattle.core_states.proofs.pasts.what_is_behind_stays.Goals as goal

pub returns-clause-entries : goal.returns-clause-entries
returns-clause-entries g c = λ cells caller session.
    entries-stay g.S.LinkedShard.fits g.S.LinkedShard.stands g.S.LinkedShard.says cells caller session

pub returns-clause-last : goal.returns-clause-last
returns-clause-last g c = λ cells caller session.
    last-entries g.S.LinkedShard.fits g.S.LinkedShard.stands g.S.LinkedShard.says cells caller session

pub returns-clause-step : goal.returns-clause-step
returns-clause-step g c = λ cells caller session.
    same-step g.S.LinkedShard.fits g.S.LinkedShard.stands g.S.LinkedShard.says cells caller session
