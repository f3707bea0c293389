use Rattle.core_states.proofs.LongerPasts.{goes-on-before, in-turn-after, run-before, run-from-nothing}
use Rattle.core_states.proofs.pasts.a_longer_past_goes_on.Goals as goal

pub returns-clause-beginning : goal.returns-clause-beginning
returns-clause-beginning g c = λ cells caller session.
    run-from-nothing g.S.LinkedShard.fits g.S.LinkedShard.stands g.S.LinkedShard.says cells caller session

pub returns-clause-runs : goal.returns-clause-runs
returns-clause-runs g c = λ cells caller session.
    run-before g.S.LinkedShard.fits g.S.LinkedShard.stands g.S.LinkedShard.says cells caller session

pub returns-clause-earlier : goal.returns-clause-earlier
returns-clause-earlier g c = λ asked cells caller session.
    goes-on-before g.S.LinkedShard.fits g.S.LinkedShard.stands g.S.LinkedShard.says cells caller session (g.B.Besides.claim asked)

pub returns-clause-turn : goal.returns-clause-turn
returns-clause-turn g c = in-turn-after
