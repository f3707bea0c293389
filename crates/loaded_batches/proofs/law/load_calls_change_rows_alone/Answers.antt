use Rattle.loaded_batches.proofs.LeftByLoading.{leave-readers, no-entries, nothing-else, speak-for}
use Rattle.loaded_batches.proofs.law.load_calls_change_rows_alone.Goals as goal

pub returns-clause-entries : goal.returns-clause-entries
returns-clause-entries c = λ cells caller session cube epoch own now goes.
    no-entries cells caller session cube epoch own now goes

pub returns-clause-speaks : goal.returns-clause-speaks
returns-clause-speaks c = λ cells caller session cube epoch number s own now goes.
    speak-for cells caller session cube epoch own now goes number s

pub returns-clause-readers : goal.returns-clause-readers
returns-clause-readers c = λ cells caller session cube epoch own now goes.
    leave-readers cells caller session cube epoch own now goes

pub returns-clause-epoch : goal.returns-clause-epoch
returns-clause-epoch c = λ cells caller session cube epoch own now goes.
    nothing-else cells caller session cube epoch own now goes
