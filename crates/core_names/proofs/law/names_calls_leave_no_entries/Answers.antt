use Rattle.core_names.proofs.PlainNames.{left-by-copies, left-by-names}
use Rattle.core_names.proofs.law.names_calls_leave_no_entries.Goals as goal

pub returns-clause-names : goal.returns-clause-names
returns-clause-names g c = λ cells caller session own now acts asks.
    left-by-names g.S.LinkedShard.fits g.S.LinkedShard.stands g.S.LinkedShard.says cells caller session acts own now
    asks

pub returns-clause-copies : goal.returns-clause-copies
returns-clause-copies g c = λ cells caller session own now acts copies.
    left-by-copies g.S.LinkedShard.fits g.S.LinkedShard.stands g.S.LinkedShard.says cells caller session acts own now
    copies
