use Rattle.core_watches.proofs.KeptOn.{none-kept, watch-kept}
use Rattle.core_watches.proofs.law.watches_are_kept.Goals as goal

pub returns-clause-begins : goal.returns-clause-begins
returns-clause-begins c = none-kept

pub returns-clause-stays : goal.returns-clause-stays
returns-clause-stays c = λ cells caller session own now kept more leaves keeps.
    watch-kept cells caller session own now more kept leaves keeps
