use Rattle.core_states.proofs.PlainCalls.{adds-no-operation, speak-by-script}
use Rattle.core_states.proofs.law.plain_calls_change_no_rows.Goals as goal

pub returns-clause-operations : goal.returns-clause-operations
returns-clause-operations c = adds-no-operation

pub returns-clause-speaks : goal.returns-clause-speaks
returns-clause-speaks c = speak-by-script
