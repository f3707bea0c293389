use Rattle.core_program.proofs.FlusherCalls.{is-client, is-served}
use Rattle.core_program.proofs.flusher.the_flusher_is_a_client.Goals as goal

pub returns-clause-client : goal.returns-clause-client
returns-clause-client g c = is-client g.S.LinkedShard.fits g.S.LinkedShard.stands g.S.LinkedShard.says

pub returns-clause-served : goal.returns-clause-served
returns-clause-served g c = λ cells caller client shards number flush.
    is-served g.S.LinkedShard.fits g.S.LinkedShard.stands g.S.LinkedShard.says cells caller client shards flush number
