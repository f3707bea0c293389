use Rattle.core_serial.proofs.Isolation.{purge-within, shown-within}
use Rattle.core_serial.proofs.snapshots.purges_stay_safe.Goals as goal

pub returns-clause-purge : goal.returns-clause-purge
returns-clause-purge c = purge-within

pub returns-clause-shown : goal.returns-clause-shown
returns-clause-shown c = shown-within
