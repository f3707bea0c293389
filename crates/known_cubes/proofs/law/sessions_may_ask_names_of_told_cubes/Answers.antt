use Rattle.known_cubes.proofs.DeclaredCubes.{told-encodes, told-finds}
use Rattle.known_cubes.proofs.law.sessions_may_ask_names_of_told_cubes.Goals as goal

pub returns-clause-encode : goal.returns-clause-encode
returns-clause-encode g c = λ cells caller client own name place dim decl shape text acts session storable told.
    told-encodes g.S.LinkedShard.fits g.S.LinkedShard.stands g.S.LinkedShard.says cells caller client own name place dim
    decl text acts session storable told shape

pub returns-clause-find : goal.returns-clause-find
returns-clause-find g c = told-finds g.S.LinkedShard.fits g.S.LinkedShard.stands g.S.LinkedShard.says
