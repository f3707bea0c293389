use Rattle.core_names.proofs.HeldOn.{rows-told}
use Rattle.core_names.proofs.law.given_numbers_may_be_put.Goals as goal

pub returns : goal.returns
returns g c = λ cells caller session own name place d rows acts storable told given.
    rows-told g.S.LinkedShard.fits g.S.LinkedShard.stands g.S.LinkedShard.says cells caller session acts storable own name place d told rows given
