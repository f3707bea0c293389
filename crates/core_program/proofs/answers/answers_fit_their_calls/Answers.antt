use Rattle.core_program.proofs.Answered.{all-answers, last-answered}
use Rattle.core_program.proofs.answers.answers_fit_their_calls.Goals as goal

pub returns-clause-all : goal.returns-clause-all
returns-clause-all g c = all-answers g.S.ShardCell.step g.S.LinkedShard.fits g.S.LinkedShard.stands g.S.LinkedShard.says

pub returns-clause-last : goal.returns-clause-last
returns-clause-last g c = last-answered
