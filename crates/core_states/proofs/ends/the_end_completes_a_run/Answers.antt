use Rattle.core_states.proofs.PlayedOut.{run-played}
use Rattle.core_states.proofs.ends.the_end_completes_a_run.Goals as goal

pub returns : goal.returns
returns g c = λ asked cells o given log events replies h also.
    run-played g.S.LinkedShard.fits g.S.LinkedShard.stands g.S.LinkedShard.says cells o given log (g.B.Besides.claim asked) events h replies also
