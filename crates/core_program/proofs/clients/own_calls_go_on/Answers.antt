use Rattle.core_program.proofs.KnownCalls.{earlier-run, go-on-from}
use Rattle.core_program.proofs.clients.own_calls_go_on.Goals as goal

pub returns-clause-runs : goal.returns-clause-runs
returns-clause-runs g c = λ cells o caller own more log run.
    earlier-run g.S.LinkedShard.fits g.S.LinkedShard.stands g.S.LinkedShard.says cells o caller own more log run

pub returns-clause-events : goal.returns-clause-events
returns-clause-events g c = λ cells o own more es.
    go-on-from g.S.LinkedShard.fits g.S.LinkedShard.stands g.S.LinkedShard.says cells o own more es
