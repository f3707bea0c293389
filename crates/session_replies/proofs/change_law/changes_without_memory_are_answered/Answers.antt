use Rattle.session_replies.proofs.Reading.{changed_without_memory, changed_without_memory_inside}
use Rattle.session_replies.proofs.change_law.changes_without_memory_are_answered.Goals as goal

pub returns-clause-alone : goal.returns-clause-alone
returns-clause-alone c = changed_without_memory

pub returns-clause-inside : goal.returns-clause-inside
returns-clause-inside c = changed_without_memory_inside
