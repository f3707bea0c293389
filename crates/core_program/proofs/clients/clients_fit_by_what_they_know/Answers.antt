use Rattle.core_program.proofs.KnownCalls.{desk-fits, names-fit, post-fits, fetch-fits, close-fits}
use Rattle.core_program.proofs.clients.clients_fit_by_what_they_know.Goals as goal

pub returns-clause-desk : goal.returns-clause-desk
returns-clause-desk g c = λ cells caller client own asked acts.
    desk-fits g.S.LinkedShard.fits g.S.LinkedShard.stands g.S.LinkedShard.says cells caller client acts own asked

pub returns-clause-names : goal.returns-clause-names
returns-clause-names g c = λ cells caller client own asked acts.
    names-fit g.S.LinkedShard.fits g.S.LinkedShard.stands g.S.LinkedShard.says cells caller client acts own asked

pub returns-clause-post : goal.returns-clause-post
returns-clause-post g c = λ cells caller client number cell own job acts at.
    post-fits g.S.LinkedShard.fits g.S.LinkedShard.stands g.S.LinkedShard.says cells caller client acts number cell own job at

pub returns-clause-fetch : goal.returns-clause-fetch
returns-clause-fetch g c = λ cells caller client number cell own acts at.
    fetch-fits g.S.LinkedShard.fits g.S.LinkedShard.stands g.S.LinkedShard.says cells caller client acts number cell own at

pub returns-clause-close : goal.returns-clause-close
returns-clause-close g c = close-fits g.S.LinkedShard.fits g.S.LinkedShard.stands g.S.LinkedShard.says
