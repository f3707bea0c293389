use Rattle.core_events.proofs.SerialRows.{snapshot-serial}
use Rattle.core_events.proofs.bricks.bricks_show_serial_execution.Goals as goal

pub returns : goal.returns
returns c = snapshot-serial
