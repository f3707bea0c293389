use Rattle.core_cubes.proofs.CallsForStatements.{all-speak, no-operation}
use Rattle.core_cubes.proofs.law.statement_calls_change_no_rows.Goals as goal

pub returns-clause-operations : goal.returns-clause-operations
returns-clause-operations c = no-operation

pub returns-clause-speaks : goal.returns-clause-speaks
returns-clause-speaks c = λ script number s added past stands. all-speak script number s stands added past
