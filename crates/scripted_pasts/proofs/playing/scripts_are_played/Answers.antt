use Rattle.scripted_pasts.proofs.PlayedMore.{none-played, one-more-played, performs-as, played-stays}
use Rattle.scripted_pasts.specs.Performed.{WhateverFile}
use Rattle.scripted_pasts.proofs.playing.scripts_are_played.Goals as goal

pub returns-clause-none : goal.returns-clause-none
returns-clause-none g c = λ known cells caller.
    none-played g.S.LinkedShard.fits g.S.LinkedShard.stands g.S.LinkedShard.says cells caller
    (g.F.KnowsFiles.is_file known)

pub returns-clause-next : goal.returns-clause-next
returns-clause-next g c = λ known cells caller.
    one-more-played g.S.LinkedShard.fits g.S.LinkedShard.stands g.S.LinkedShard.says cells caller
    (g.F.KnowsFiles.is_file known)

pub returns-clause-whatever : goal.returns-clause-whatever
returns-clause-whatever g c = λ known cells caller number old new watch kept own now sentence said each.
    performs-as g.S.LinkedShard.fits g.S.LinkedShard.stands g.S.LinkedShard.says cells caller WhateverFile
    (g.F.KnowsFiles.is_file known number sentence said) old new watch kept own now sentence said (λ file any. each file)

pub returns-clause-stays : goal.returns-clause-stays
returns-clause-stays g c = λ known cells caller.
    played-stays g.S.LinkedShard.fits g.S.LinkedShard.stands g.S.LinkedShard.says cells caller
    (g.F.KnowsFiles.is_file known)
