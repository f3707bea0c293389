use Rattle.core_serial.proofs.Isolation.{isolated}
use Rattle.core_serial.proofs.snapshots.snapshots_are_isolated.Goals as goal

pub returns : goal.returns
returns c = isolated
