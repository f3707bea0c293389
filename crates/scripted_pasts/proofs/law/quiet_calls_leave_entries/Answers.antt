use Rattle.scripted_pasts.proofs.QuietLearns.{plain-is-quiet, quietly-by-plain, quietly-closed, quietly-then}
use Rattle.scripted_pasts.proofs.law.quiet_calls_leave_entries.Goals as goal

pub returns-clause-quiet : goal.returns-clause-quiet
returns-clause-quiet g c = plain-is-quiet

pub returns-clause-plain : goal.returns-clause-plain
returns-clause-plain g c = λ cells caller session.
    quietly-by-plain g.S.LinkedShard.fits g.S.LinkedShard.stands g.S.LinkedShard.says cells caller session

pub returns-clause-closed : goal.returns-clause-closed
returns-clause-closed g c = λ cells caller session.
    quietly-closed g.S.LinkedShard.fits g.S.LinkedShard.stands g.S.LinkedShard.says cells caller session

pub returns-clause-then : goal.returns-clause-then
returns-clause-then g c = λ cells caller session.
    quietly-then g.S.LinkedShard.fits g.S.LinkedShard.stands g.S.LinkedShard.says cells caller session
