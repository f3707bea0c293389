use Rattle.one_session.proofs.Pending.{settled_by_pending}
use Rattle.one_session.proofs.law.what_is_not_pending_is_settled.Goals as goal

pub returns : goal.returns
returns c = settled_by_pending
