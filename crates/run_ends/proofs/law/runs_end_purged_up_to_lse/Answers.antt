use Rattle.run_ends.proofs.RecordedEnds.{purged, shown-counters}
use Rattle.run_ends.proofs.law.runs_end_purged_up_to_lse.Goals as goal

pub returns-clause-counters : goal.returns-clause-counters
returns-clause-counters c = shown-counters

pub returns-clause-purged : goal.returns-clause-purged
returns-clause-purged c = purged
