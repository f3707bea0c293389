use Rattle.session_desk.proofs.LegalRuns.{legal_run}
use Rattle.session_desk.proofs.law.a_run_that_has_ended_is_legal.Goals as goal

pub returns : goal.returns
returns c = legal_run
