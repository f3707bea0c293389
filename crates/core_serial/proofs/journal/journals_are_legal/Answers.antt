use Rattle.core_serial.proofs.LegalJournals.{run-legal, run-leads}
use Rattle.core_serial.proofs.journal.journals_are_legal.Goals as goal

pub returns-clause-legal : goal.returns-clause-legal
returns-clause-legal c = run-legal

pub returns-clause-leads : goal.returns-clause-leads
returns-clause-leads c = run-leads
