use Rattle.session_replies.proofs.Inserting.{deleted_alone, deleted_inside}
use Rattle.session_replies.proofs.change_law.deletes_are_answered.Goals as goal

pub returns-clause-alone : goal.returns-clause-alone
returns-clause-alone c = deleted_alone

pub returns-clause-inside : goal.returns-clause-inside
returns-clause-inside c = deleted_inside
