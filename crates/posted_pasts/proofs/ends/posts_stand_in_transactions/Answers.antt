use Rattle.posted_pasts.proofs.PostsAtEnd.{at-statement}
use Rattle.posted_pasts.proofs.ends.posts_stand_in_transactions.Goals as goal

pub returns : goal.returns
returns g c = λ asked cells caller session cube past own state o given later es mine d s st b r same.
    at-statement g.S.LinkedShard.fits g.S.LinkedShard.stands g.S.LinkedShard.says
    cells (g.B.Besides.claim asked) caller session past own state o given
    later es mine st b r same cube d s
