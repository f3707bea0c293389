use Rattle.core_serial.proofs.OwnCalls.{own-operations}
use Rattle.core_serial.proofs.serial.transactions_are_what_their_sessions_posted.Goals as goal

pub returns : goal.returns
returns c = own-operations
