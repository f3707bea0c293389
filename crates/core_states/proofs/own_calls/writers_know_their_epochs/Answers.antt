use Rattle.core_states.proofs.CallEntries.{aborts-at, commits-at}
use Rattle.core_states.proofs.own_calls.writers_know_their_epochs.Goals as goal

pub returns-clause-commit : goal.returns-clause-commit
returns-clause-commit g c = λ cells caller session.
    commits-at g.S.LinkedShard.fits g.S.LinkedShard.stands g.S.LinkedShard.says cells caller session

pub returns-clause-abort : goal.returns-clause-abort
returns-clause-abort g c = λ cells caller session.
    aborts-at g.S.LinkedShard.fits g.S.LinkedShard.stands g.S.LinkedShard.says cells caller session
