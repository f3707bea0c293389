use Rattle.core_cases.proofs.WholeRun.{whole-run, whole-answer, whole-rows, whole-safe}
use Rattle.core_cases.proofs.law.a_whole_run_fits.Goals as goal

pub returns-clause-run : goal.returns-clause-run
returns-clause-run c = whole-run

pub returns-clause-answered : goal.returns-clause-answered
returns-clause-answered c = whole-answer

pub returns-clause-rows : goal.returns-clause-rows
returns-clause-rows c = whole-rows

pub returns-clause-safe : goal.returns-clause-safe
returns-clause-safe c = whole-safe
