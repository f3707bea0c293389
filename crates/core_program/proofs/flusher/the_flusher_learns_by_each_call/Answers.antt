use Rattle.core_program.proofs.FlusherCalls.{took-learns, none-learns, closed-learns, reply-learns}
use Rattle.core_program.proofs.flusher.the_flusher_learns_by_each_call.Goals as goal

pub returns-clause-took : goal.returns-clause-took
returns-clause-took g c = λ cells caller client shards cell to own job o log es flush at opens are.
    took-learns g.S.LinkedShard.fits g.S.LinkedShard.stands g.S.LinkedShard.says cells caller client shards flush cell to own job o log es at opens are

pub returns-clause-found_none : goal.returns-clause-found_none
returns-clause-found_none g c = λ cells caller client shards cell own o log es flush at opens are.
    none-learns g.S.LinkedShard.fits g.S.LinkedShard.stands g.S.LinkedShard.says cells caller client shards flush cell own o log es at opens are

pub returns-clause-found_closed : goal.returns-clause-found_closed
returns-clause-found_closed g c = λ cells caller client shards cell own o log es flush at opens are.
    closed-learns g.S.LinkedShard.fits g.S.LinkedShard.stands g.S.LinkedShard.says cells caller client shards flush cell own o log es at opens are

pub returns-clause-replied : goal.returns-clause-replied
returns-clause-replied g c = λ cells caller client shards cell to own said o log es flush at opens are.
    reply-learns g.S.LinkedShard.fits g.S.LinkedShard.stands g.S.LinkedShard.says cells caller client shards flush cell to own said o log es at opens are
