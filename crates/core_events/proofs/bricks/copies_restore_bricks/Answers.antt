use Rattle.core_events.proofs.CopyRows.{copies-restore}
use Rattle.core_events.proofs.bricks.copies_restore_bricks.Goals as goal

pub returns : goal.returns
returns c = copies-restore
