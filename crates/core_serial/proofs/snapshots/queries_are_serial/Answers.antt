use Rattle.core_serial.proofs.SerialQueries.{answered-serial}
use Rattle.core_serial.proofs.snapshots.queries_are_serial.Goals as goal

pub returns : goal.returns
returns c = answered-serial
