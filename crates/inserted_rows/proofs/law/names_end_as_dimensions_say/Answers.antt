use Rattle.inserted_rows.proofs.NamesAtEnd.{left-later, numbers-end}
use Rattle.inserted_rows.proofs.law.names_end_as_dimensions_say.Goals as goal

pub returns-clause-numbers : goal.returns-clause-numbers
returns-clause-numbers c = λ cells caller place own d named told. numbers-end cells caller place own d named told

pub returns-clause-later : goal.returns-clause-later
returns-clause-later c = left-later
