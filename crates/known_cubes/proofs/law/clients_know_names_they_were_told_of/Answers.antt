use Rattle.known_cubes.proofs.ToldNames.{knows-number, number-stands, told-later, told-newest}
use Rattle.known_cubes.proofs.law.clients_know_names_they_were_told_of.Goals as goal

pub returns-clause-knows : goal.returns-clause-knows
returns-clause-knows g c = knows-number g.S.LinkedShard.fits g.S.LinkedShard.stands g.S.LinkedShard.says

pub returns-clause-stands : goal.returns-clause-stands
returns-clause-stands g c = λ cells o.
    number-stands g.S.LinkedShard.fits g.S.LinkedShard.stands g.S.LinkedShard.says o cells

pub returns-clause-newest : goal.returns-clause-newest
returns-clause-newest g c = told-newest

pub returns-clause-later : goal.returns-clause-later
returns-clause-later g c = told-later
