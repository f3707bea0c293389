use Rattle.session_watches.proofs.KeptHolders.{desk-keeps, each-keeps, names-keep, some-keep}
use Rattle.session_watches.proofs.law.own_calls_keep_the_holders.Goals as goal

pub returns-clause-desk : goal.returns-clause-desk
returns-clause-desk g c = desk-keeps g.S.LinkedShard.fits g.S.LinkedShard.stands g.S.LinkedShard.says

pub returns-clause-names : goal.returns-clause-names
returns-clause-names g c = names-keep g.S.LinkedShard.fits g.S.LinkedShard.stands g.S.LinkedShard.says

pub returns-clause-each : goal.returns-clause-each
returns-clause-each g c = each-keeps g.S.LinkedShard.fits g.S.LinkedShard.stands g.S.LinkedShard.says

pub returns-clause-some : goal.returns-clause-some
returns-clause-some g c = some-keep g.S.LinkedShard.fits g.S.LinkedShard.stands g.S.LinkedShard.says
