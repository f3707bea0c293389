use Rattle.core_serial.proofs.FoundRows.{answered-rows}
use Rattle.core_serial.proofs.snapshots.queries_see_one_snapshot.Goals as goal

pub returns : goal.returns
returns c = answered-rows
