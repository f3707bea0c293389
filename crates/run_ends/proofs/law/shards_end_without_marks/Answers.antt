use Rattle.run_ends.proofs.RecordedEnds.{no-marks, no-safe-marks}
use Rattle.run_ends.proofs.law.shards_end_without_marks.Goals as goal

pub returns-clause-safe : goal.returns-clause-safe
returns-clause-safe c =
    λ o counters callers number opening cells log es s r low is.
    no-safe-marks o counters callers opening cells log es r number s low is

pub returns-clause-all : goal.returns-clause-all
returns-clause-all c =
    λ o counters callers number cube brick opening cells log es s r all low is here.
    no-marks o counters callers opening cells log es r number cube brick s all low is here
