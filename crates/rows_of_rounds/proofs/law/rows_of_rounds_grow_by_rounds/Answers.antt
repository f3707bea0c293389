use Rattle.rows_of_rounds.proofs.RowsThen.{rows-with-round}
use Rattle.rows_of_rounds.proofs.law.rows_of_rounds_grow_by_rounds.Goals as goal

pub returns : goal.returns
returns c = rows-with-round
