use Rattle.core_names.proofs.GivenCodes.{none-told, still-told}
use Rattle.core_names.proofs.law.known_numbers_stay_told.Goals as goal

pub returns-clause-none : goal.returns-clause-none
returns-clause-none c = none-told

pub returns-clause-later : goal.returns-clause-later
returns-clause-later c = still-told
