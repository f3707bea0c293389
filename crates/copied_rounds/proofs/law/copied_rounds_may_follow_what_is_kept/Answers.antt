use Rattle.copied_rounds.proofs.RoundsOfRuns.{round-may-follow}
use Rattle.copied_rounds.proofs.law.copied_rounds_may_follow_what_is_kept.Goals as goal

pub returns : goal.returns
returns c = round-may-follow
