use Rattle.last_rounds.proofs.SavedRounds.{all-safe, saved-last, saved-lce, saved-lse}
use Rattle.last_rounds.proofs.law.last_rounds_save_all.Goals as goal

pub returns-clause-saved : goal.returns-clause-saved
returns-clause-saved c = saved-last

pub returns-clause-committed : goal.returns-clause-committed
returns-clause-committed c = saved-lce

pub returns-clause-safe : goal.returns-clause-safe
returns-clause-safe c = saved-lse

pub returns-clause-all : goal.returns-clause-all
returns-clause-all c = all-safe
