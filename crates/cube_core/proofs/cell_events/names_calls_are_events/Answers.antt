use Rattle.cube_core.proofs.NamesLinks.{can, steps, others}
use Rattle.cube_core.proofs.cell_events.names_calls_are_events.Goals as goal

pub returns-clause-can : goal.returns-clause-can
returns-clause-can c = can

pub returns-clause-steps : goal.returns-clause-steps
returns-clause-steps c = steps

pub returns-clause-others : goal.returns-clause-others
returns-clause-others c = others
