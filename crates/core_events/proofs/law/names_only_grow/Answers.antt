use Rattle.core_events.proofs.Names.{names-grow, codes-stay, told-names}
use Rattle.core_events.proofs.law.names_only_grow.Goals as goal

pub returns-clause-grow : goal.returns-clause-grow
returns-clause-grow c = names-grow

pub returns-clause-codes : goal.returns-clause-codes
returns-clause-codes c = codes-stay

pub returns-clause-known : goal.returns-clause-known
returns-clause-known c = told-names
