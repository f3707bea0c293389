use Rattle.core_changes.proofs.AnsweredSteps.{delete-done, insert-done, load-done}
use Rattle.core_changes.proofs.answers.done_changes_are_operations.Goals as goal

pub returns-clause-inserted : goal.returns-clause-inserted
returns-clause-inserted c = insert-done

pub returns-clause-loaded : goal.returns-clause-loaded
returns-clause-loaded c = load-done

pub returns-clause-deleted : goal.returns-clause-deleted
returns-clause-deleted c = delete-done
