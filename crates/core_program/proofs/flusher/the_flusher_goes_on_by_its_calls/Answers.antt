use Rattle.core_program.proofs.FlusherCalls.{more-calls}
use Rattle.core_program.proofs.flusher.the_flusher_goes_on_by_its_calls.Goals as goal

pub returns : goal.returns
returns c = more-calls
