use Rattle.session_replies.proofs.Loading.{file_missing, file_too_long, rejected_alone, rejected_inside, unread_alone, unread_inside}
use Rattle.session_replies.proofs.change_law.files_refuse_loads.Goals as goal

pub returns-clause-missing : goal.returns-clause-missing
returns-clause-missing c = file_missing

pub returns-clause-too_long : goal.returns-clause-too_long
returns-clause-too_long c = file_too_long

pub returns-clause-rejected_alone : goal.returns-clause-rejected_alone
returns-clause-rejected_alone c = rejected_alone

pub returns-clause-rejected_inside : goal.returns-clause-rejected_inside
returns-clause-rejected_inside c = rejected_inside

pub returns-clause-unread_alone : goal.returns-clause-unread_alone
returns-clause-unread_alone c = unread_alone

pub returns-clause-unread_inside : goal.returns-clause-unread_inside
returns-clause-unread_inside c = unread_inside
