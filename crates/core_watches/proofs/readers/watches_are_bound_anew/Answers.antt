use Rattle.core_watches.proofs.BoundAnew.{bound-anew}
use Rattle.core_watches.proofs.readers.watches_are_bound_anew.Goals as goal

pub returns : goal.returns
returns c = bound-anew
