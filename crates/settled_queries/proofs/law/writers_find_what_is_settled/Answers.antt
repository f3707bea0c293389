use Rattle.settled_queries.proofs.SettledRows.{writer-settled}
use Rattle.settled_queries.proofs.law.writers_find_what_is_settled.Goals as goal

pub returns : goal.returns
returns c = writer-settled
