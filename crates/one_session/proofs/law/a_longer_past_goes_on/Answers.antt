use Rattle.one_session.proofs.Backwards.{goes_on_before, goes_on_from_nothing, in_turn_after}
use Rattle.one_session.proofs.law.a_longer_past_goes_on.Goals as goal

pub returns-clause-earlier : goal.returns-clause-earlier
returns-clause-earlier c = goes_on_before

pub returns-clause-turn : goal.returns-clause-turn
returns-clause-turn c = in_turn_after

pub returns-clause-beginning : goal.returns-clause-beginning
returns-clause-beginning c = goes_on_from_nothing
