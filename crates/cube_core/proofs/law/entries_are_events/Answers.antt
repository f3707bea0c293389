use Rattle.cube_core.proofs.EntrySteps.{can, steps}
use Rattle.cube_core.proofs.law.entries_are_events.Goals as goal

pub returns-clause-can : goal.returns-clause-can
returns-clause-can g c = can g.S.ShardCell.can g.S.ShardCell.step g.S.LinkedShard.fits g.S.LinkedShard.stands g.S.LinkedShard.says g.met.S.LinkedShard.linked

pub returns-clause-steps : goal.returns-clause-steps
returns-clause-steps g c = steps g.S.ShardCell.can g.S.ShardCell.step g.S.LinkedShard.fits g.S.LinkedShard.stands g.S.LinkedShard.says g.met.S.LinkedShard.linked
