use Rattle.core_changes.proofs.AnsweredSteps.{done-by, failed-by}
use Rattle.core_changes.proofs.answers.changes_are_steps_by_writers.Goals as goal

pub returns-clause-done : goal.returns-clause-done
returns-clause-done c = done-by

pub returns-clause-failed : goal.returns-clause-failed
returns-clause-failed c = failed-by
