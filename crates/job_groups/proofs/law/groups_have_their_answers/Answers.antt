use Rattle.job_groups.proofs.Ended.{has-all, refused-each, refused-some}
use Rattle.job_groups.proofs.law.groups_have_their_answers.Goals as goal

pub returns-clause-all : goal.returns-clause-all
returns-clause-all c = λ calls outcomes. has-all outcomes

pub returns-clause-refused : goal.returns-clause-refused
returns-clause-refused c = λ calls outcomes. refused-each outcomes

pub returns-clause-refused_some : goal.returns-clause-refused_some
returns-clause-refused_some c = λ numbers calls outcomes long. refused-some numbers outcomes long
