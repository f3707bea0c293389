use Rattle.session_replies.proofs.Reading.{selected_alone, selected_inside, selected_without_memory}
use Rattle.session_replies.proofs.read_law.selects_are_answered.Goals as goal

pub returns-clause-alone : goal.returns-clause-alone
returns-clause-alone c = selected_alone

pub returns-clause-inside : goal.returns-clause-inside
returns-clause-inside c = selected_inside

pub returns-clause-no_memory : goal.returns-clause-no_memory
returns-clause-no_memory c = selected_without_memory
