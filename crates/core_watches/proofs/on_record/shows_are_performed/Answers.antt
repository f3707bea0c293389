use Rattle.core_watches.proofs.ShowsPerformed.{performed}
use Rattle.core_watches.proofs.on_record.shows_are_performed.Goals as goal

pub returns : goal.returns
returns c = performed
