use Rattle.core_program.proofs.Serving.{may-serve, takes-calls}
use Rattle.core_program.proofs.workers.workers_serve_their_shards.Goals as goal

pub returns-clause-may : goal.returns-clause-may
returns-clause-may g c = may-serve g.S.LinkedShard.fits g.S.LinkedShard.stands g.S.LinkedShard.says

pub returns-clause-calls : goal.returns-clause-calls
returns-clause-calls g c = takes-calls g.S.LinkedShard.fits g.S.LinkedShard.stands g.S.LinkedShard.says g.S.ShardCell.can g.S.ShardCell.step g.met.S.LinkedShard.linked
