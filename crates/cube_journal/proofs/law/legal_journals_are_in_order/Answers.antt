use Rattle.cube_journal.proofs.Orders.{legal-order}
use Rattle.cube_journal.proofs.law.legal_journals_are_in_order.Goals as goal

pub returns : goal.returns
returns c = legal-order
