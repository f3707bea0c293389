use Rattle.cube_core.proofs.OwnEntries.{own-calls, own-moves}
use Rattle.cube_core.proofs.OwnKnowledge.{clients-hang, workers-hang, flusher-hangs, flusher-told}
use Rattle.cube_core.proofs.law.callers_make_their_own.Goals as goal

pub returns-clause-calls : goal.returns-clause-calls
returns-clause-calls g c = own-calls g.S.LinkedShard.fits g.S.LinkedShard.stands g.S.LinkedShard.says

pub returns-clause-moves : goal.returns-clause-moves
returns-clause-moves g c = own-moves g.S.LinkedShard.fits g.S.LinkedShard.stands g.S.LinkedShard.says

pub returns-clause-clients : goal.returns-clause-clients
returns-clause-clients g c = clients-hang g.S.LinkedShard.fits g.S.LinkedShard.stands g.S.LinkedShard.says

pub returns-clause-workers : goal.returns-clause-workers
returns-clause-workers g c = workers-hang g.S.LinkedShard.fits g.S.LinkedShard.stands g.S.LinkedShard.says

pub returns-clause-flusher : goal.returns-clause-flusher
returns-clause-flusher g c = flusher-hangs g.S.LinkedShard.fits g.S.LinkedShard.stands g.S.LinkedShard.says

pub returns-clause-told : goal.returns-clause-told
returns-clause-told g c = flusher-told g.S.LinkedShard.fits g.S.LinkedShard.stands g.S.LinkedShard.says
