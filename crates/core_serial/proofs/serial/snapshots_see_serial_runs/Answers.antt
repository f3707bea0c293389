use Rattle.core_serial.proofs.RestingSnapshots.{resting-serial}
use Rattle.core_serial.proofs.serial.snapshots_see_serial_runs.Goals as goal

pub returns : goal.returns
returns c = resting-serial
