use Rattle.std.proofs.Common.{sym, subst}
use Rattle.core_selects.proofs.SelectsPerformed.{select-performed}
use Rattle.core_selects.specs.SelectEnds.{EndsSelect}
use Rattle.core_states.specs.declared.session.CoreSession.{CoreSession}
use Rattle.scripted_pasts.specs.Performed.{WhateverFile}
use Rattle.scripted_pasts.specs.Served.{PerformsWatchedOverShards}
use Rattle.core_selects.proofs.law.selects_are_performed.Goals as goal

pub returns : goal.returns
returns c = λ cells caller shards place old new s d own found now said served select may counts f ends.
    subst (λ (n : CoreSession). PerformsWatchedOverShards cells caller WhateverFile s old own n now said) (sym counts)
    (select-performed cells caller shards old served s select may place d own found now f said
    (subst (λ (n : CoreSession). EndsSelect cells caller n s place d found now said) counts ends))
