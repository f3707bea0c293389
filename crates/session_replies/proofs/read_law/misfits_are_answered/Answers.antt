use Rattle.session_replies.proofs.Reading.{unfit}
use Rattle.session_replies.proofs.read_law.misfits_are_answered.Goals as goal

pub returns : goal.returns
returns c = unfit
