use Rattle.scripted_pasts.proofs.NamedRows.{committed-named}
use Rattle.scripted_pasts.proofs.named_runs.committed_rows_are_named.Goals as goal

pub returns : goal.returns
returns c = λ o given es session epoch cube place d dim r is has committed.
    committed-named o given es cube place d dim r has session epoch is committed
