use Rattle.cube_core.proofs.Snapshots.{commits, closes, aborts}
use Rattle.cube_core.proofs.holding.sessions_end_snapshots.Goals as goal

pub returns-clause-commit : goal.returns-clause-commit
returns-clause-commit c = commits

pub returns-clause-close : goal.returns-clause-close
returns-clause-close c = closes

pub returns-clause-abort : goal.returns-clause-abort
returns-clause-abort c = aborts
