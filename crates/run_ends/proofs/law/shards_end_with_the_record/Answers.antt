use Rattle.run_ends.proofs.RecordedEnds.{all-rows, safe-rows}
use Rattle.run_ends.proofs.law.shards_end_with_the_record.Goals as goal

pub returns-clause-safe : goal.returns-clause-safe
returns-clause-safe c =
    λ o counters callers opening cells log es given cube d r scripted cube_is.
    safe-rows o counters callers opening cells log es r given cube d scripted cube_is

pub returns-clause-all : goal.returns-clause-all
returns-clause-all c =
    λ o counters callers opening cells log es given cube d r scripted cube_is all.
    all-rows o counters callers opening cells log es r given cube d scripted cube_is all
