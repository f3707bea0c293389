use Rattle.core_program.proofs.ClientRuns.{client-run}
use Rattle.core_program.proofs.clients.clients_know_their_runs.Goals as goal

pub returns : goal.returns
returns g c = client-run g.S.LinkedShard.fits g.S.LinkedShard.stands g.S.LinkedShard.says g.S.ShardCell.can g.S.ShardCell.step g.met.S.LinkedShard.linked
