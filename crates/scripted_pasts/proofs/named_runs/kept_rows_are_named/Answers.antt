use Rattle.scripted_pasts.proofs.NamedRows.{kept-named}
use Rattle.scripted_pasts.proofs.named_runs.kept_rows_are_named.Goals as goal

pub returns : goal.returns
returns c = kept-named
