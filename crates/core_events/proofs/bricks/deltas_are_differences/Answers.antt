use Rattle.core_events.proofs.DeltaRows.{delta-counts}
use Rattle.core_events.proofs.bricks.deltas_are_differences.Goals as goal

pub returns : goal.returns
returns c = delta-counts
