use Rattle.scripted_ends.proofs.EndedRuns.{scripts-end}
use Rattle.scripted_ends.proofs.ends.scripts_end_in_a_run.Goals as goal

pub returns : goal.returns
returns g c = λ known cells.
    scripts-end g.S.LinkedShard.fits g.S.LinkedShard.stands g.S.LinkedShard.says cells
    (λ session. g.F.KnowsFiles.is_file (known session))
