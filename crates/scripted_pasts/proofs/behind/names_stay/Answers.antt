use Rattle.scripted_pasts.proofs.NamesMore.{none-more, with-calls, with-statement}
use Rattle.scripted_pasts.proofs.behind.names_stay.Goals as goal

pub returns-clause-calls : goal.returns-clause-calls
returns-clause-calls g c = λ asked cells caller session past own now more goes.
    with-calls g.S.LinkedShard.fits g.S.LinkedShard.stands g.S.LinkedShard.says cells caller session
    (g.B.Besides.claim asked) past own now more goes

pub returns-clause-none : goal.returns-clause-none
returns-clause-none g c = λ asked cells caller session past own now goes.
    none-more g.S.LinkedShard.fits g.S.LinkedShard.stands g.S.LinkedShard.says cells caller session
    (g.B.Besides.claim asked) past own now goes

pub returns-clause-statement : goal.returns-clause-statement
returns-clause-statement g c =
    λ asked cells caller session before after state sentence added own now turn m more becomes asks named.
    with-statement g.S.LinkedShard.fits g.S.LinkedShard.stands g.S.LinkedShard.says cells caller session
    (g.B.Besides.claim asked) before after state sentence added turn m own now more becomes asks named
