use Rattle.posted_pasts.proofs.PostsMore.{nothing-posted}
use Rattle.posted_pasts.proofs.law.posts_stand_at_the_beginning.Goals as goal

pub returns : goal.returns
returns g c = λ asked cells caller session.
    nothing-posted g.S.LinkedShard.fits g.S.LinkedShard.stands g.S.LinkedShard.says
    cells caller session (g.B.Besides.claim asked)
