use Rattle.one_session.proofs.Coded.{answer_of_cube}
use Rattle.one_session.proofs.RowValues.{query_answers}
use Rattle.one_session.proofs.law.queries_answer_for_all_that_go_on.Goals as goal

pub returns-clause-of_cube : goal.returns-clause-of_cube
returns-clause-of_cube c = answer_of_cube

pub returns-clause-table : goal.returns-clause-table
returns-clause-table c = query_answers
