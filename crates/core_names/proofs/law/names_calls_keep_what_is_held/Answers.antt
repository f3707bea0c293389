use Rattle.core_names.proofs.HeldOn.{entries-on, holds-on}
use Rattle.core_names.proofs.law.names_calls_keep_what_is_held.Goals as goal

pub returns-clause-holds : goal.returns-clause-holds
returns-clause-holds g c = λ cells caller session own now acts asks.
    holds-on g.S.LinkedShard.fits g.S.LinkedShard.stands g.S.LinkedShard.says cells caller session acts own now asks

pub returns-clause-entries : goal.returns-clause-entries
returns-clause-entries g c = λ cells caller session own now entries acts asks leave.
    entries-on g.S.LinkedShard.fits g.S.LinkedShard.stands g.S.LinkedShard.says cells caller session acts own now entries asks leave
