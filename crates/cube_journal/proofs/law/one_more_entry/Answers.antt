use Rattle.cube_journal.proofs.Orders.{state-with, legal-with}
use Rattle.cube_journal.proofs.law.one_more_entry.Goals as goal

pub returns : goal.returns
returns c = record { state = state-with; legal = legal-with }
