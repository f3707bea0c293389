use Rattle.ended_sessions.proofs.EndHolds.{nothing-held}
use Rattle.ended_sessions.proofs.law.merged_scripts_leave_nothing_held.Goals as goal

pub returns : goal.returns
returns c = nothing-held
