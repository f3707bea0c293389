use Rattle.copied_rounds.proofs.RoundsOfRuns.{round-of-run}
use Rattle.copied_rounds.proofs.law.copied_rounds_are_of_their_runs.Goals as goal

pub returns : goal.returns
returns c = round-of-run
