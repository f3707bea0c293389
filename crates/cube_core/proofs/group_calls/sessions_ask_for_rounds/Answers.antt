use Rattle.cube_core.proofs.Requests.{may-ask, learns, answered, may-note-round, may-refuse}
use Rattle.cube_core.proofs.group_calls.sessions_ask_for_rounds.Goals as goal

pub returns-clause-may_ask : goal.returns-clause-may_ask
returns-clause-may_ask c = may-ask

pub returns-clause-learns : goal.returns-clause-learns
returns-clause-learns c = learns

pub returns-clause-answered : goal.returns-clause-answered
returns-clause-answered c = answered

pub returns-clause-may_note : goal.returns-clause-may_note
returns-clause-may_note c = may-note-round

pub returns-clause-may_refuse : goal.returns-clause-may_refuse
returns-clause-may_refuse c = may-refuse
