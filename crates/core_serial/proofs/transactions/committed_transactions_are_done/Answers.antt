use Rattle.core_serial.proofs.CountedRows.{committed-posted}
use Rattle.core_serial.proofs.Fates.{committed-unrolled}
use Rattle.core_serial.proofs.transactions.committed_transactions_are_done.Goals as goal

pub returns-clause-done : goal.returns-clause-done
returns-clause-done c = committed-posted

pub returns-clause-stays : goal.returns-clause-stays
returns-clause-stays c = committed-unrolled
