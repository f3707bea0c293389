use Rattle.one_session.proofs.RowValues.{rows_keep}
use Rattle.one_session.proofs.law.rows_keep_their_values.Goals as goal

pub returns : goal.returns
returns c = rows_keep
