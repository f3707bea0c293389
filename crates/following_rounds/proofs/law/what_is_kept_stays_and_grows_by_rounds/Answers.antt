use Rattle.following_rounds.proofs.KeptLists.{kept-later, kept-with-round}
use Rattle.following_rounds.proofs.law.what_is_kept_stays_and_grows_by_rounds.Goals as goal

pub returns-clause-later : goal.returns-clause-later
returns-clause-later c = kept-later

pub returns-clause-round : goal.returns-clause-round
returns-clause-round c = kept-with-round
