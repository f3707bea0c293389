use Rattle.core_serial.proofs.StoreRows.{round-of, copies-of-bricks, store-after-round}
use Rattle.core_serial.proofs.copies.rounds_keep_committed_transactions.Goals as goal

pub returns-clause-round : goal.returns-clause-round
returns-clause-round c = round-of

pub returns-clause-bricks : goal.returns-clause-bricks
returns-clause-bricks c = copies-of-bricks

pub returns-clause-store : goal.returns-clause-store
returns-clause-store c = store-after-round
