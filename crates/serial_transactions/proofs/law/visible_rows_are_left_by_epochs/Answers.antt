use Rattle.serial_transactions.proofs.ByEpochs.{left-by-epochs}
use Rattle.serial_transactions.proofs.law.visible_rows_are_left_by_epochs.Goals as goal

pub returns : goal.returns
returns c = left-by-epochs
