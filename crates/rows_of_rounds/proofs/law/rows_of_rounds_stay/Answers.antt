use Rattle.rows_of_rounds.proofs.RowsThen.{rows-earlier, rows-later}
use Rattle.rows_of_rounds.proofs.law.rows_of_rounds_stay.Goals as goal

pub returns-clause-later : goal.returns-clause-later
returns-clause-later c = rows-later

pub returns-clause-earlier : goal.returns-clause-earlier
returns-clause-earlier c = rows-earlier
