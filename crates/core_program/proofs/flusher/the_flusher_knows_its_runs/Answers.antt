use Rattle.core_program.proofs.FlusherCalls.{flusher-run}
use Rattle.core_program.proofs.flusher.the_flusher_knows_its_runs.Goals as goal

pub returns : goal.returns
returns g c = flusher-run g.S.LinkedShard.fits g.S.LinkedShard.stands g.S.LinkedShard.says g.S.ShardCell.can g.S.ShardCell.step g.met.S.LinkedShard.linked
