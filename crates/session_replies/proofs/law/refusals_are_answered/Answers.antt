use Rattle.session_replies.proofs.Refusing.{refused_by_its_mode, spells_none, unknown_cube, without_memory}
use Rattle.session_replies.proofs.law.refusals_are_answered.Goals as goal

pub returns-clause-no_memory : goal.returns-clause-no_memory
returns-clause-no_memory c = without_memory

pub returns-clause-syntax : goal.returns-clause-syntax
returns-clause-syntax c = spells_none

pub returns-clause-by_mode : goal.returns-clause-by_mode
returns-clause-by_mode c = refused_by_its_mode

pub returns-clause-unknown : goal.returns-clause-unknown
returns-clause-unknown c = unknown_cube
