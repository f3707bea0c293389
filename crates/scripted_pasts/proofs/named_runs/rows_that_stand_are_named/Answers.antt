use Rattle.scripted_pasts.proofs.NamedRows.{stand-named}
use Rattle.scripted_pasts.proofs.named_runs.rows_that_stand_are_named.Goals as goal

pub returns : goal.returns
returns c = stand-named
