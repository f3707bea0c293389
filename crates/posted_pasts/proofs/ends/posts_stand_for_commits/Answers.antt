use Rattle.posted_pasts.proofs.PostsAtEnd.{commits-stand}
use Rattle.posted_pasts.proofs.ends.posts_stand_for_commits.Goals as goal

pub returns : goal.returns
returns g c = λ asked judged cells o given log events session replies state h is_session also ended b.
    commits-stand g.S.LinkedShard.fits g.S.LinkedShard.stands g.S.LinkedShard.says
    cells o given log (g.B.Besides.claim asked) (g.J.Besides.claim judged) events
    session replies h ended state is_session also b
