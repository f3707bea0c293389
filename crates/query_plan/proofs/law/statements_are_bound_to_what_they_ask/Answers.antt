use Rattle.query_plan.proofs.Ties.{spans_take_regions, queries_take_regions, queries_answer}
use Rattle.query_plan.proofs.law.statements_are_bound_to_what_they_ask.Goals as goal

pub returns-clause-spans : goal.returns-clause-spans
returns-clause-spans c = spans_take_regions

pub returns-clause-queries : goal.returns-clause-queries
returns-clause-queries c = queries_take_regions

pub returns-clause-answers : goal.returns-clause-answers
returns-clause-answers c = queries_answer
