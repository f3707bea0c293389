use Rattle.core_serial.proofs.OwnPosts.{own-posts, one-opens}
use Rattle.core_serial.proofs.transactions.transactions_are_own_calls.Goals as goal

pub returns-clause-own : goal.returns-clause-own
returns-clause-own c = own-posts

pub returns-clause-one : goal.returns-clause-one
returns-clause-one c = one-opens
