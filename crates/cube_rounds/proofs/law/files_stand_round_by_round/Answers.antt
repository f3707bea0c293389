use Rattle.cube_rounds.proofs.OneMore.{rounds_follow}
use Rattle.cube_rounds.proofs.law.files_stand_round_by_round.Goals as goal

pub returns-clause-round : goal.returns-clause-round
returns-clause-round c = rounds_follow
