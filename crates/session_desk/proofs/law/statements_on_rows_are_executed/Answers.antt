use Rattle.session_desk.proofs.Changing.{executes_on_rows}
use Rattle.session_desk.proofs.law.statements_on_rows_are_executed.Goals as goal

pub returns : goal.returns
returns c = executes_on_rows
