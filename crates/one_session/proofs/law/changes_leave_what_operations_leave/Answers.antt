use Rattle.one_session.proofs.Coded.{changes_stand}
use Rattle.one_session.proofs.law.changes_leave_what_operations_leave.Goals as goal

pub returns : goal.returns
returns c = changes_stand
