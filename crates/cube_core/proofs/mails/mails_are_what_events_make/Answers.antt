use Rattle.cube_core.proofs.MailSteps.{opens, posts, fetches, not-yet, takes, none, closed, replies, closes, others}
use Rattle.cube_core.proofs.mails.mails_are_what_events_make.Goals as goal

pub returns-clause-opens : goal.returns-clause-opens
returns-clause-opens g c = λ job_of. opens job_of g.A.StandsForOutcome.stands_for

pub returns-clause-posts : goal.returns-clause-posts
returns-clause-posts g c = λ job_of. posts job_of g.A.StandsForOutcome.stands_for

pub returns-clause-fetches : goal.returns-clause-fetches
returns-clause-fetches g c = λ job_of. fetches job_of g.A.StandsForOutcome.stands_for

pub returns-clause-not_yet : goal.returns-clause-not_yet
returns-clause-not_yet g c = λ job_of. not-yet job_of g.A.StandsForOutcome.stands_for

pub returns-clause-takes : goal.returns-clause-takes
returns-clause-takes g c = λ job_of. takes job_of g.A.StandsForOutcome.stands_for

pub returns-clause-none : goal.returns-clause-none
returns-clause-none g c = λ job_of. none job_of g.A.StandsForOutcome.stands_for

pub returns-clause-closed : goal.returns-clause-closed
returns-clause-closed g c = λ job_of. closed job_of g.A.StandsForOutcome.stands_for

pub returns-clause-replies : goal.returns-clause-replies
returns-clause-replies g c = λ job_of. replies job_of g.A.StandsForOutcome.stands_for

pub returns-clause-closes : goal.returns-clause-closes
returns-clause-closes g c = λ job_of. closes job_of g.A.StandsForOutcome.stands_for

pub returns-clause-others : goal.returns-clause-others
returns-clause-others g c = λ job_of. others job_of g.A.StandsForOutcome.stands_for
