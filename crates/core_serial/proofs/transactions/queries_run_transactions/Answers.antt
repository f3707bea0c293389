use Rattle.core_serial.proofs.CountedRows.{answered-counts}
use Rattle.core_serial.proofs.transactions.queries_run_transactions.Goals as goal

pub returns : goal.returns
returns c = answered-counts
