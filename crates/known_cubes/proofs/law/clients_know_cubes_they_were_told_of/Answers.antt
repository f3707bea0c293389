use Rattle.known_cubes.proofs.ToldCubes.{desk-has, knows-cube, still-knows, told-later, told-newest}
use Rattle.known_cubes.proofs.law.clients_know_cubes_they_were_told_of.Goals as goal

pub returns-clause-knows : goal.returns-clause-knows
returns-clause-knows g c = knows-cube g.S.LinkedShard.fits g.S.LinkedShard.stands g.S.LinkedShard.says

pub returns-clause-desk : goal.returns-clause-desk
returns-clause-desk g c = λ cells o. desk-has g.S.LinkedShard.fits g.S.LinkedShard.stands g.S.LinkedShard.says o cells

pub returns-clause-stays : goal.returns-clause-stays
returns-clause-stays g c = still-knows

pub returns-clause-newest : goal.returns-clause-newest
returns-clause-newest g c = told-newest

pub returns-clause-later : goal.returns-clause-later
returns-clause-later g c = told-later
