use Rattle.kept_holders.proofs.LeftHolders.{holders-left, of-statement-are-own, own-and-more, plain-are-own}
use Rattle.kept_holders.proofs.law.other_calls_leave_the_holders.Goals as goal

pub returns-clause-plain : goal.returns-clause-plain
returns-clause-plain g c = plain-are-own g.S.LinkedShard.fits g.S.LinkedShard.stands g.S.LinkedShard.says

pub returns-clause-statement : goal.returns-clause-statement
returns-clause-statement g c = of-statement-are-own g.S.LinkedShard.fits g.S.LinkedShard.stands g.S.LinkedShard.says

pub returns-clause-more : goal.returns-clause-more
returns-clause-more g c = own-and-more g.S.LinkedShard.fits g.S.LinkedShard.stands g.S.LinkedShard.says

pub returns-clause-holders : goal.returns-clause-holders
returns-clause-holders g c = holders-left g.S.LinkedShard.fits g.S.LinkedShard.stands g.S.LinkedShard.says
