use Rattle.core_program.proofs.KnownCalls.{desk-learns, names-learn, post-learns, fetch-learns, waiting-learns, close-learns}
use Rattle.core_program.proofs.clients.clients_learn_by_each_call.Goals as goal

pub returns-clause-desk : goal.returns-clause-desk
returns-clause-desk g c = λ cells caller client own asked said o log es acts opens are.
    desk-learns g.S.LinkedShard.fits g.S.LinkedShard.stands g.S.LinkedShard.says cells caller client acts own asked said o log es opens are

pub returns-clause-names : goal.returns-clause-names
returns-clause-names g c = λ cells caller client own asked said o log es acts opens are.
    names-learn g.S.LinkedShard.fits g.S.LinkedShard.stands g.S.LinkedShard.says cells caller client acts own asked said o log es opens are

pub returns-clause-post : goal.returns-clause-post
returns-clause-post g c = λ cells caller client number cell own job o log es acts at opens are.
    post-learns g.S.LinkedShard.fits g.S.LinkedShard.stands g.S.LinkedShard.says cells caller client acts number cell own job o log es at opens are

pub returns-clause-fetch : goal.returns-clause-fetch
returns-clause-fetch g c = λ cells caller client number cell own said o log es acts at opens are.
    fetch-learns g.S.LinkedShard.fits g.S.LinkedShard.stands g.S.LinkedShard.says cells caller client acts number cell own said o log es at opens are

pub returns-clause-waiting : goal.returns-clause-waiting
returns-clause-waiting g c = λ cells caller client number cell own o log es acts at opens are.
    waiting-learns g.S.LinkedShard.fits g.S.LinkedShard.stands g.S.LinkedShard.says cells caller client acts number cell own o log es at opens are

pub returns-clause-closed : goal.returns-clause-closed
returns-clause-closed g c = λ cells number cell own o log es acts at opens are.
    close-learns g.S.LinkedShard.fits g.S.LinkedShard.stands g.S.LinkedShard.says cells number cell own o log es at opens are
