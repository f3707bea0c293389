use Rattle.session_desk.proofs.SettledAtDesk.{settled_at_desk}
use Rattle.session_desk.proofs.law.a_session_at_its_desk_is_settled.Goals as goal

pub returns : goal.returns
returns c = settled_at_desk
