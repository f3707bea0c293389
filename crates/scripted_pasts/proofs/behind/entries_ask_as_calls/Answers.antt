use Rattle.scripted_pasts.proofs.AskedCalls.{calls-ask, entries-ask}
use Rattle.scripted_pasts.proofs.behind.entries_ask_as_calls.Goals as goal

pub returns-clause-calls : goal.returns-clause-calls
returns-clause-calls g c = λ cells caller session o log run es own acts later are.
    calls-ask g.S.LinkedShard.fits g.S.LinkedShard.stands g.S.LinkedShard.says cells caller session o log run es own
    acts
    later are

pub returns-clause-entries : goal.returns-clause-entries
returns-clause-entries g c = λ cells caller session o log run es own acts later are.
    entries-ask g.S.LinkedShard.fits g.S.LinkedShard.stands g.S.LinkedShard.says cells caller session o log run es own
    acts later are
