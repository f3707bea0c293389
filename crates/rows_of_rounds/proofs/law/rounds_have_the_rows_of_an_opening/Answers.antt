use Rattle.rows_of_rounds.proofs.RowsThen.{rows-at-opening, rows-of-none}
use Rattle.rows_of_rounds.proofs.law.rounds_have_the_rows_of_an_opening.Goals as goal

pub returns-clause-opened : goal.returns-clause-opened
returns-clause-opened c = rows-at-opening

pub returns-clause-none : goal.returns-clause-none
returns-clause-none c = rows-of-none
