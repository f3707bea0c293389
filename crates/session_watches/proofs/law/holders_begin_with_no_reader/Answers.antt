use Rattle.session_watches.proofs.KeptHolders.{leading-held, none-held}
use Rattle.session_watches.proofs.law.holders_begin_with_no_reader.Goals as goal

pub returns-clause-none : goal.returns-clause-none
returns-clause-none g c = none-held g.S.LinkedShard.fits g.S.LinkedShard.stands g.S.LinkedShard.says

pub returns-clause-leading : goal.returns-clause-leading
returns-clause-leading g c = leading-held g.S.LinkedShard.fits g.S.LinkedShard.stands g.S.LinkedShard.says
