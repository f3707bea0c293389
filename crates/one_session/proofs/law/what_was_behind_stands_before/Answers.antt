use Rattle.one_session.proofs.Befores.{before_first, cube_stands}
use Rattle.one_session.proofs.law.what_was_behind_stands_before.Goals as goal

pub returns-clause-journal : goal.returns-clause-journal
returns-clause-journal c = before_first

pub returns-clause-cube : goal.returns-clause-cube
returns-clause-cube c = cube_stands
