use Rattle.flusher_rounds.proofs.Rounds.{may-list, listed, lacking, may-name, named, knows-names, names-told, no-names}
use Rattle.flusher_rounds.proofs.law.rounds_copy_cubes_and_names.Goals as goal

pub returns-clause-may_list : goal.returns-clause-may_list
returns-clause-may_list c = may-list

pub returns-clause-listed : goal.returns-clause-listed
returns-clause-listed c = listed

pub returns-clause-lacking : goal.returns-clause-lacking
returns-clause-lacking c = lacking

pub returns-clause-may_name : goal.returns-clause-may_name
returns-clause-may_name c = may-name

pub returns-clause-named : goal.returns-clause-named
returns-clause-named c = named

pub returns-clause-knows : goal.returns-clause-knows
returns-clause-knows c = knows-names

pub returns-clause-names : goal.returns-clause-names
returns-clause-names c = names-told

pub returns-clause-no_memory : goal.returns-clause-no_memory
returns-clause-no_memory c = no-names
