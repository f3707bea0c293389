use Rattle.std.proofs.Common.{inr, subst}
use Rattle.run_words.specs.Words.{IsFirstWrong, words_faults}
use Rattle.run_words.specs.declared.given.Given.{Given}
use Rattle.run_words.proofs.reading.read_words.Goals as goal

pub returns-in-Err-clause-fault : goal.returns-in-Err-clause-fault
returns-in-Err-clause-fault c =
    let given = c.in_ok-given_by.ensures in
    inr (
      given.taken,
      subst (λ (g : Given). IsFirstWrong g words_faults c.in-Err.fault) given.given c.in-Err.ensures.fault,
    )
