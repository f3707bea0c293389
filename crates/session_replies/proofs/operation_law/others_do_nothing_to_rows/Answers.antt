use Rattle.session_replies.proofs.Doing.{ended_does_nothing, ended_inside_does_nothing, refused_does_nothing, select_does_nothing}
use Rattle.session_replies.proofs.operation_law.others_do_nothing_to_rows.Goals as goal

pub returns-clause-refused : goal.returns-clause-refused
returns-clause-refused c = refused_does_nothing

pub returns-clause-ended_alone : goal.returns-clause-ended_alone
returns-clause-ended_alone c = ended_does_nothing

pub returns-clause-ended_inside : goal.returns-clause-ended_inside
returns-clause-ended_inside c = ended_inside_does_nothing

pub returns-clause-selected : goal.returns-clause-selected
returns-clause-selected c = select_does_nothing
