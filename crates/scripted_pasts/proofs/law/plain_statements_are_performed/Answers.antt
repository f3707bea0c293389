use Rattle.scripted_pasts.proofs.PerformedPlainly.{in-core, when-plain, when-watched}
use Rattle.scripted_pasts.proofs.law.plain_statements_are_performed.Goals as goal

pub returns-clause-in_core : goal.returns-clause-in_core
returns-clause-in_core g c = λ cells caller.
    in-core g.S.LinkedShard.fits g.S.LinkedShard.stands g.S.LinkedShard.says cells caller

pub returns-clause-lets : goal.returns-clause-lets
returns-clause-lets g c = λ cells caller s old new own now said performs watch may. performs watch

pub returns-clause-watched : goal.returns-clause-watched
returns-clause-watched g c = λ cells caller.
    when-watched g.S.LinkedShard.fits g.S.LinkedShard.stands g.S.LinkedShard.says cells caller

pub returns-clause-plainly : goal.returns-clause-plainly
returns-clause-plainly g c = λ cells caller.
    when-plain g.S.LinkedShard.fits g.S.LinkedShard.stands g.S.LinkedShard.says cells caller
