use Rattle.settled_queries.proofs.Moments.{passes}
use Rattle.settled_queries.proofs.law.later_runs_pass_the_moment.Goals as goal

pub returns : goal.returns
returns g c = passes g.S.LinkedShard.fits g.S.LinkedShard.stands g.S.LinkedShard.says g.S.ShardCell.can g.S.ShardCell.step g.met.S.LinkedShard.linked
