use Rattle.one_session.proofs.Ends.{has_played}
use Rattle.one_session.proofs.law.the_end_completes_a_run.Goals as goal

pub returns : goal.returns
returns c = has_played
