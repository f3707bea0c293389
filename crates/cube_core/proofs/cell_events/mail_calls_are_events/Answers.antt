use Rattle.cube_core.proofs.MailLinks.{can, steps, others}
use Rattle.cube_core.proofs.cell_events.mail_calls_are_events.Goals as goal

pub returns-clause-can : goal.returns-clause-can
returns-clause-can g c = λ job_of. can job_of g.A.StandsForOutcome.stands_for

pub returns-clause-steps : goal.returns-clause-steps
returns-clause-steps g c = λ job_of. steps job_of g.A.StandsForOutcome.stands_for

pub returns-clause-others : goal.returns-clause-others
returns-clause-others g c = λ job_of. others job_of g.A.StandsForOutcome.stands_for
