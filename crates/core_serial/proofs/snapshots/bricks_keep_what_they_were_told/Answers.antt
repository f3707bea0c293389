use Rattle.core_serial.proofs.ToldBricks.{seen-of-told}
use Rattle.core_serial.proofs.snapshots.bricks_keep_what_they_were_told.Goals as goal

pub returns : goal.returns
returns c = seen-of-told
