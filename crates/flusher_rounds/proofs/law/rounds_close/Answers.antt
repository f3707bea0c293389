use Rattle.flusher_rounds.proofs.Replies.{stays-lost}
use Rattle.flusher_rounds.proofs.Rounds.{may-close, closed}
use Rattle.flusher_rounds.proofs.law.rounds_close.Goals as goal

pub returns-clause-may_close : goal.returns-clause-may_close
returns-clause-may_close c = may-close

pub returns-clause-closed : goal.returns-clause-closed
returns-clause-closed c = closed

pub returns-clause-stays_lost : goal.returns-clause-stays_lost
returns-clause-stays_lost c = stays-lost
