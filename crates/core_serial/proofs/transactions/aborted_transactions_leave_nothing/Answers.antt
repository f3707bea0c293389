use Rattle.core_serial.proofs.Fates.{aborted-rolled}
use Rattle.core_serial.proofs.transactions.aborted_transactions_leave_nothing.Goals as goal

pub returns : goal.returns
returns c = aborted-rolled
