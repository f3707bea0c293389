use Rattle.core_changes.proofs.AnsweredSteps.{delete-answered, insert-answered, load-answered}
use Rattle.core_changes.proofs.answers.done_changes_are_answered.Goals as goal

pub returns-clause-inserted : goal.returns-clause-inserted
returns-clause-inserted c = insert-answered

pub returns-clause-loaded : goal.returns-clause-loaded
returns-clause-loaded c = load-answered

pub returns-clause-deleted : goal.returns-clause-deleted
returns-clause-deleted c = delete-answered
