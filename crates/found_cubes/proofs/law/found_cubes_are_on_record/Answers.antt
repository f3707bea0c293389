use Rattle.found_cubes.proofs.FoundOnRecord.{found-on-record}
use Rattle.found_cubes.proofs.law.found_cubes_are_on_record.Goals as goal

pub returns : goal.returns
returns g c = λ cells caller session number own mid now.
    found-on-record g.S.LinkedShard.fits g.S.LinkedShard.stands g.S.LinkedShard.says cells caller session number own mid now
