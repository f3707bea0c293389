use Rattle.scripted_pasts.proofs.StepsNamed.{deletion-named, nothing-named, put-named}
use Rattle.scripted_pasts.proofs.behind.steps_are_named.Goals as goal

pub returns-clause-nothing : goal.returns-clause-nothing
returns-clause-nothing c = nothing-named

pub returns-clause-put : goal.returns-clause-put
returns-clause-put c = put-named

pub returns-clause-deleted : goal.returns-clause-deleted
returns-clause-deleted c = deletion-named
