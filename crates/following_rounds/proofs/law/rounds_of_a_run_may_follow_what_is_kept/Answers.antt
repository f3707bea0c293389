use Rattle.following_rounds.proofs.WholeRounds.{round-fits}
use Rattle.following_rounds.proofs.law.rounds_of_a_run_may_follow_what_is_kept.Goals as goal

pub returns : goal.returns
returns c = round-fits
