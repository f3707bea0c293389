use Rattle.posted_pasts.proofs.AddedCalls.{plain-learns}
use Rattle.posted_pasts.proofs.PostsMore.{with-calls, with-failure, with-statement}
use Rattle.posted_pasts.proofs.law.posts_stay.Goals as goal

pub returns-clause-calls : goal.returns-clause-calls
returns-clause-calls g c = λ asked cells caller session past own now state more learns.
    with-calls g.S.LinkedShard.fits g.S.LinkedShard.stands g.S.LinkedShard.says
    cells caller session (g.B.Besides.claim asked) past own now state more
    learns

pub returns-clause-plain : goal.returns-clause-plain
returns-clause-plain g c = λ asked cells caller session past own now state more goes.
    with-calls g.S.LinkedShard.fits g.S.LinkedShard.stands g.S.LinkedShard.says
    cells caller session (g.B.Besides.claim asked) past own now state more
    (plain-learns g.S.LinkedShard.fits g.S.LinkedShard.stands g.S.LinkedShard.says
    cells caller session own now goes)

pub returns-clause-statement : goal.returns-clause-statement
returns-clause-statement g c = λ asked cells caller session before after own state sentence added turn m none.
    with-statement g.S.LinkedShard.fits g.S.LinkedShard.stands g.S.LinkedShard.says
    cells caller session (g.B.Besides.claim asked) before after state
    sentence added turn m own none

pub returns-clause-failed : goal.returns-clause-failed
returns-clause-failed g c =
    λ asked cells caller session epoch before after own now state sentence added turn m none more learns gone.
    with-failure g.S.LinkedShard.fits g.S.LinkedShard.stands g.S.LinkedShard.says
    cells caller session (g.B.Besides.claim asked) before after state
    sentence added turn m epoch own now none more learns gone
