use Rattle.cube_run.proofs.OneText.{one-text, some-text}
use Rattle.cube_run.proofs.law.one_journal_one_text.Goals as goal

pub returns-clause-some : goal.returns-clause-some
returns-clause-some c = some-text

pub returns-clause-one : goal.returns-clause-one
returns-clause-one c = one-text
