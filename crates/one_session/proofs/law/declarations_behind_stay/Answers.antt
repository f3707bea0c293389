use Rattle.one_session.proofs.Declared.{declaration_stays, names_stay}
use Rattle.one_session.proofs.law.declarations_behind_stay.Goals as goal

pub returns-clause-declaration : goal.returns-clause-declaration
returns-clause-declaration c = declaration_stays

pub returns-clause-names : goal.returns-clause-names
returns-clause-names c = names_stay
