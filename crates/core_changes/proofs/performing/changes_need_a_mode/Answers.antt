use Rattle.core_changes.proofs.EndedSessions.{change-needs-a-mode}
use Rattle.core_changes.proofs.performing.changes_need_a_mode.Goals as goal

pub returns : goal.returns
returns c = change-needs-a-mode
