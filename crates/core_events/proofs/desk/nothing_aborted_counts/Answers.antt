use Rattle.core_events.proofs.Finished.{aborted-counts-not, none-both}
use Rattle.core_events.proofs.desk.nothing_aborted_counts.Goals as goal

pub returns-clause-apart : goal.returns-clause-apart
returns-clause-apart c = none-both

pub returns-clause-counts : goal.returns-clause-counts
returns-clause-counts c = aborted-counts-not
