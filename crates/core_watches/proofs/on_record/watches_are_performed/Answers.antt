use Rattle.core_watches.proofs.WatchesPerformed.{performed}
use Rattle.core_watches.proofs.on_record.watches_are_performed.Goals as goal

pub returns : goal.returns
returns c = performed
