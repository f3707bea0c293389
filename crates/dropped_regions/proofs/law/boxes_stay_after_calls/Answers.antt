use Rattle.dropped_regions.proofs.BoxesOfPlans.{box-later}
use Rattle.dropped_regions.proofs.law.boxes_stay_after_calls.Goals as goal

pub returns : goal.returns
returns g c = λ cells caller place own now d s box more is_box.
    box-later g.S.LinkedShard.fits g.S.LinkedShard.stands g.S.LinkedShard.says cells caller own place d now s box more
    is_box
