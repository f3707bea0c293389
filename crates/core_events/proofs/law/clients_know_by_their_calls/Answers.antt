use Rattle.core_events.proofs.Knowledge.{known-by-calls}
use Rattle.core_events.proofs.law.clients_know_by_their_calls.Goals as goal

pub returns : goal.returns
returns c = known-by-calls
