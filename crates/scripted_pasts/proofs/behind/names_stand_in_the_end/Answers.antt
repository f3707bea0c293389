use Rattle.scripted_pasts.proofs.NamesAtEnd.{names-stand}
use Rattle.scripted_pasts.proofs.behind.names_stand_in_the_end.Goals as goal

pub returns : goal.returns
returns g c = λ asked judged cells o given log events session replies h is_session also ended b.
    names-stand g.S.LinkedShard.fits g.S.LinkedShard.stands g.S.LinkedShard.says cells o given log
    (g.B.Besides.claim asked) (g.J.Besides.claim judged) events session replies h ended is_session also b
