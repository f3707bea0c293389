use Rattle.core_cases.proofs.SmallRun.{small-run, small-answer, small-rows}
use Rattle.core_cases.proofs.law.a_small_run_fits.Goals as goal

pub returns-clause-run : goal.returns-clause-run
returns-clause-run c = small-run

pub returns-clause-answered : goal.returns-clause-answered
returns-clause-answered c = small-answer

pub returns-clause-rows : goal.returns-clause-rows
returns-clause-rows c = small-rows
