use Rattle.kept_data.proofs.FoundNames.{names_are, each_is, each_sound, each_found, each_made, none_past}
use Rattle.kept_data.proofs.law.kept_names_are_found.Goals as goal

pub returns-clause-names : goal.returns-clause-names
returns-clause-names c = names_are

pub returns-clause-each : goal.returns-clause-each
returns-clause-each c = each_is

pub returns-clause-sound : goal.returns-clause-sound
returns-clause-sound c = each_sound

pub returns-clause-found : goal.returns-clause-found
returns-clause-found c = each_found

pub returns-clause-made : goal.returns-clause-made
returns-clause-made c = each_made

pub returns-clause-none : goal.returns-clause-none
returns-clause-none c = none_past
