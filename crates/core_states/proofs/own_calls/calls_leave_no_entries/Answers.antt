use Rattle.core_states.proofs.CallEntries.{ask-left, fetch-left, names-left, post-left}
use Rattle.core_states.proofs.own_calls.calls_leave_no_entries.Goals as goal

pub returns-clause-names : goal.returns-clause-names
returns-clause-names g c = λ cells caller client.
    names-left g.S.LinkedShard.fits g.S.LinkedShard.stands g.S.LinkedShard.says cells caller client

pub returns-clause-post : goal.returns-clause-post
returns-clause-post g c = λ cells caller client.
    post-left g.S.LinkedShard.fits g.S.LinkedShard.stands g.S.LinkedShard.says cells caller client

pub returns-clause-ask : goal.returns-clause-ask
returns-clause-ask g c = λ cells caller client.
    ask-left g.S.LinkedShard.fits g.S.LinkedShard.stands g.S.LinkedShard.says cells caller client

pub returns-clause-fetch : goal.returns-clause-fetch
returns-clause-fetch g c = λ cells caller client.
    fetch-left g.S.LinkedShard.fits g.S.LinkedShard.stands g.S.LinkedShard.says cells caller client
