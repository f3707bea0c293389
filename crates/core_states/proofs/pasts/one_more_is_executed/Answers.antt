use Rattle.core_states.proofs.LongerPasts.{executed}
use Rattle.core_states.proofs.pasts.one_more_is_executed.Goals as goal

pub returns : goal.returns
returns g c = λ asked cells caller session.
    executed g.S.LinkedShard.fits g.S.LinkedShard.stands g.S.LinkedShard.says cells caller session (g.B.Besides.claim asked)
