use Rattle.copied_names.proofs.Moments.{passes}
use Rattle.copied_names.proofs.law.runs_pass_the_moment_after_calls.Goals as goal

pub returns : goal.returns
returns g c = passes g.S.LinkedShard.fits g.S.LinkedShard.stands g.S.LinkedShard.says g.S.ShardCell.can g.S.ShardCell.step g.met.S.LinkedShard.linked
