use Rattle.session_replies.proofs.Doing.{delete_done_alone, delete_done_inside, insert_done_alone, insert_done_inside, load_done_alone, load_done_inside}
use Rattle.session_replies.proofs.operation_law.changes_are_told.Goals as goal

pub returns-clause-inserted_alone : goal.returns-clause-inserted_alone
returns-clause-inserted_alone c = insert_done_alone

pub returns-clause-inserted_inside : goal.returns-clause-inserted_inside
returns-clause-inserted_inside c = insert_done_inside

pub returns-clause-loaded_alone : goal.returns-clause-loaded_alone
returns-clause-loaded_alone c = load_done_alone

pub returns-clause-loaded_inside : goal.returns-clause-loaded_inside
returns-clause-loaded_inside c = load_done_inside

pub returns-clause-deleted_alone : goal.returns-clause-deleted_alone
returns-clause-deleted_alone c = delete_done_alone

pub returns-clause-deleted_inside : goal.returns-clause-deleted_inside
returns-clause-deleted_inside c = delete_done_inside
