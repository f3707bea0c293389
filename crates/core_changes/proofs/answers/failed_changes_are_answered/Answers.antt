use Rattle.core_changes.proofs.AnsweredSteps.{insert-full, load-full, load-rejected, load-unread, no-memory-answered}
use Rattle.core_changes.proofs.answers.failed_changes_are_answered.Goals as goal

pub returns-clause-no_memory : goal.returns-clause-no_memory
returns-clause-no_memory c = no-memory-answered

pub returns-clause-insert_full : goal.returns-clause-insert_full
returns-clause-insert_full c = insert-full

pub returns-clause-load_full : goal.returns-clause-load_full
returns-clause-load_full c = load-full

pub returns-clause-load_rejected : goal.returns-clause-load_rejected
returns-clause-load_rejected c = load-rejected

pub returns-clause-load_unread : goal.returns-clause-load_unread
returns-clause-load_unread c = load-unread
