use Rattle.following_rounds.proofs.NamesSince.{new-names}
use Rattle.following_rounds.proofs.law.names_behind_others_are_new.Goals as goal

pub returns : goal.returns
returns c = new-names
