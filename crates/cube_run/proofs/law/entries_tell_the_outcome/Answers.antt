use Rattle.cube_run.proofs.OneOutcome.{one-outcome}
use Rattle.cube_run.proofs.law.entries_tell_the_outcome.Goals as goal

pub returns : goal.returns
returns c = one-outcome
