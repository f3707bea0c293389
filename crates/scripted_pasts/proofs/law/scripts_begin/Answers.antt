use Rattle.scripted_pasts.proofs.PlayedMore.{nothing-for-script}
use Rattle.scripted_pasts.proofs.law.scripts_begin.Goals as goal

pub returns : goal.returns
returns g c = λ cells caller.
    nothing-for-script g.S.LinkedShard.fits g.S.LinkedShard.stands g.S.LinkedShard.says cells caller
