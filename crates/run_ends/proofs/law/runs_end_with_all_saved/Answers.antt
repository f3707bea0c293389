use Rattle.ended_sessions.proofs.EndHolds.{nothing-held}
use Rattle.run_ends.proofs.WholeEnds.{epoch-shown, last-shown, safe-shown}
use Rattle.run_ends.proofs.law.runs_end_with_all_saved.Goals as goal

pub returns-clause-saved : goal.returns-clause-saved
returns-clause-saved c =
    λ o how counters callers epoch opening cells log es given r h scripted merge is.
    last-shown o how counters callers opening cells log es r h
    (nothing-held o given es r.run scripted.follow.each merge) epoch is

pub returns-clause-epoch : goal.returns-clause-epoch
returns-clause-epoch c =
    λ o how counters callers epoch opening cells log es given r h scripted merge is.
    epoch-shown o how counters callers opening cells log es r h
    (nothing-held o given es r.run scripted.follow.each merge) epoch is

pub returns-clause-all : goal.returns-clause-all
returns-clause-all c =
    λ o how counters callers epoch opening cells log es given r h scripted merge is.
    safe-shown o how counters callers opening cells log es r h
    (nothing-held o given es r.run scripted.follow.each merge) epoch is
