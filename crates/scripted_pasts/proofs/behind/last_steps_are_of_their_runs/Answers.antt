use Rattle.scripted_pasts.proofs.StepsAmong.{last-among}
use Rattle.scripted_pasts.proofs.behind.last_steps_are_of_their_runs.Goals as goal

pub returns : goal.returns
returns g c = λ cells caller session before after state sentence added turn m o given events is from was.
    last-among g.S.LinkedShard.fits g.S.LinkedShard.stands g.S.LinkedShard.says cells caller session before after state
    sentence added turn m o given events is from was
