use Rattle.cube_core.proofs.AnswersInTurn.{all-in-turn, refused-in-turn}
use Rattle.cube_core.proofs.group_calls.answers_come_in_turn.Goals as goal

pub returns-clause-all : goal.returns-clause-all
returns-clause-all c = all-in-turn

pub returns-clause-refused : goal.returns-clause-refused
returns-clause-refused c = refused-in-turn
