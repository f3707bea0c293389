use Rattle.core_program.proofs.FlusherCalls.{take-fits, reply-fits}
use Rattle.core_program.proofs.flusher.the_flusher_fits_by_what_it_knows.Goals as goal

pub returns-clause-take : goal.returns-clause-take
returns-clause-take g c = λ cells caller client shards cell own flush at.
    take-fits g.S.LinkedShard.fits g.S.LinkedShard.stands g.S.LinkedShard.says cells caller client shards flush cell own at

pub returns-clause-reply : goal.returns-clause-reply
returns-clause-reply g c = λ cells caller client shards cell to own said flush at.
    reply-fits g.S.LinkedShard.fits g.S.LinkedShard.stands g.S.LinkedShard.says cells caller client shards flush cell to own said at
