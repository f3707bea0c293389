use Rattle.core_changes.proofs.StepsOfChanges.{does-what-it-asks}
use Rattle.core_changes.proofs.performing.changes_do_what_they_ask.Goals as goal

pub returns : goal.returns
returns c = does-what-it-asks
