use Rattle.core_serial.proofs.FetchedDeltas.{deltas-differ}
use Rattle.core_serial.proofs.deltas.deltas_are_between_readers.Goals as goal

pub returns : goal.returns
returns c = deltas-differ
