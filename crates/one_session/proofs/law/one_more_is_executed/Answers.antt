use Rattle.one_session.proofs.Steps.{executed}
use Rattle.one_session.proofs.law.one_more_is_executed.Goals as goal

pub returns : goal.returns
returns c = executed
