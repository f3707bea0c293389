use Rattle.scripted_pasts.proofs.NamesMore.{nothing-named}
use Rattle.scripted_pasts.proofs.behind.names_stand_at_the_beginning.Goals as goal

pub returns : goal.returns
returns g c = λ asked cells caller session.
    nothing-named g.S.LinkedShard.fits g.S.LinkedShard.stands g.S.LinkedShard.says cells caller session
    (g.B.Besides.claim asked)
