use Rattle.one_session.proofs.RowValues.{full_stays, place_stays}
use Rattle.one_session.proofs.law.full_dictionaries_stay.Goals as goal

pub returns-clause-place : goal.returns-clause-place
returns-clause-place c = place_stays

pub returns-clause-names : goal.returns-clause-names
returns-clause-names c = full_stays
